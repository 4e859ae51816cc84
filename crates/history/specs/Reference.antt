-- A shaft with an index line among the events of one axis: docs/RULES.md, "A port sample", Index. Newest first.
use Rattle.std.specs.Prelude.{◌≡◌, Bool, cond, List, ℤ, ◌-ℤ◌}
use Rattle.position.specs.Position.{in_range}
use Rattle.axis.specs.Kind.{X4}
use Rattle.axis.specs.Row.{axis_of}
use Rattle.axis.specs.declared.row.Row.{Row}
use Rattle.axis_sound.specs.Sound.{status_of}
use Rattle.axis_sound.specs.declared.Status.TheVariants.{Sampled}
use Rattle.row_calls.specs.Calls.{Change}
use Rattle.row_calls.specs.Calls.{Setup, Erase, Preset, Arm, Acknowledge}
use Rattle.history_axis.specs.Reference.{Zero, set, Follows}
use Rattle.runs.specs.Op.{Op, changes, restore, reading, looks}
use Rattle.runs.specs.Event.{Event, row_since}
use Rattle.history.specs.Phase.{start_axis, acts_since}

-- Events after which a row, x4 at depth 1, has followed a shaft since its phase began or since a later first sample: z says Z's level at
-- each angle, b is the angle that the shaft is at, and o where its position is 0. Refused calls and looks may stand between.
pub record OnShaft (z : ℤ → Bool) (r : Row) (h : List Event) (b : ℤ) (o : Zero) : Type 0 where
  pub live : status_of (row_since r h) ≡ Sampled
  pub kind : (axis_of (row_since r h)).config.kind ≡ X4
  pub depth : (axis_of (row_since r h)).config.depth ≡ 1
  pub follows : Follows z (start_axis r h) (acts_since r h) b o

-- Where the position is 0 after a change that is no erase, with the shaft at the angle b: an accepted preset moves it.
unfoldable pub zero_by : Change → ℤ → Zero → Zero
zero_by (Setup kind depth width turn) b o = o
zero_by Erase b o = o
zero_by (Preset p) b o = cond (in_range p) (set (b -ℤ p)) o
zero_by Arm b o = o
zero_by Acknowledge b o = o

-- The same after a call.
unfoldable pub zero_after : Op → ℤ → Zero → Zero
zero_after (changes c) b o = zero_by c b o
zero_after (restore bytes) b o = o
zero_after (reading x) b o = o
zero_after (looks l) b o = o
