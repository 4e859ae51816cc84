-- What setup, erase, preset, arm and acknowledge make of the named row: docs/RULES.md, "Calls that name one axis".
use Rattle.std.specs.Prelude.{ℕ, cond, ℤ, Result, Ok, Err}
use Rattle.position.specs.Position.{in_range}
use Rattle.refusal.specs.declared.Refusal.{Refusal}
use Rattle.refusal.specs.declared.Refusal.TheVariants.{Broken as BROKEN, Empty as EMPTY, Kind as KIND}
use Rattle.refusal.specs.declared.Refusal.TheVariants.{Value as VALUE, Occupied as OCCUPIED}
use Rattle.axis.specs.Config.{good_config}
use Rattle.axis.specs.Row.{axis_of, row_of, empty_row, fresh}
use Rattle.axis_sound.specs.Sound.{is_empty, status_of}
use Rattle.axis.specs.declared.config.Config.{Config}
use Rattle.axis.specs.declared.row.Axis.{Axis}
use Rattle.axis.specs.declared.row.Row.{Row}
use Rattle.axis_sound.specs.declared.Status.{Status}
use Rattle.axis_sound.specs.declared.Status.TheVariants.{Empty, Sampled, Counter, Broken}
use Rattle.row_calls.specs.Change.{preset_axis, arm_axis, acknowledge_axis}

-- The refusals that a row's own state gives, in their order: BROKEN, EMPTY, and then what the call does on a sampled row and on a counter.
abbrev pub by_status : {A : Type 0} → (Refusal → A) → A → A → Status → A
by_status refuse sampled counter Broken = refuse BROKEN
by_status refuse sampled counter Empty = refuse EMPTY
by_status refuse sampled counter Sampled = sampled
by_status refuse sampled counter Counter = counter

-- The row that a call leaves: the one that it made, or the row as it was.
abbrev pub left_by : Row → Result Row Refusal → Row
left_by r (Ok q) = q
left_by r (Err e) = r

-- One call after another: the second takes the row that the first made, and a refusal of the first stands.
abbrev pub and_then : Result Row Refusal → (Row → Result Row Refusal) → Result Row Refusal
and_then (Ok q) next = next q
and_then (Err e) next = Err e

-- The axis of a sampled row or of a counter.
unfoldable pub axis_in_use : Row → Result Axis Refusal
axis_in_use r = by_status Err (Ok (axis_of r)) (Ok (axis_of r)) (status_of r)

-- The axis of a sampled row only.
unfoldable pub axis_sampled : Row → Result Axis Refusal
axis_sampled r = by_status Err (Ok (axis_of r)) (Err KIND) (status_of r)

-- The axis of a counter only.
unfoldable pub axis_counting : Row → Result Axis Refusal
axis_counting r = by_status Err (Err KIND) (Ok (axis_of r)) (status_of r)

-- ---- setup, which takes an empty row alone, and erase, which takes any

-- A call that wants an empty row: what it says there, and OCCUPIED of every row that is not four zero words, a broken one too.
abbrev pub on_empty : Result Row Refusal → Row → Result Row Refusal
on_empty say r = cond (is_empty r) say (Err OCCUPIED)

-- The configuration of four numbers.
abbrev pub config_of : ℕ → ℕ → ℕ → ℕ → Config
config_of kind depth width turn = record { kind = kind; depth = depth; width = width; turn = turn }

-- Setup of an empty row makes the axis there, or refuses four numbers that are no configuration.
unfoldable pub setup_row : ℕ → ℕ → ℕ → ℕ → Row → Result Row Refusal
setup_row kind depth width turn =
    on_empty (cond (good_config kind depth width turn) (Ok (row_of (fresh (config_of kind depth width turn)))) (Err VALUE))

-- Erase writes four zero words, whatever the row held.
unfoldable pub erase_row : Row → Result Row Refusal
erase_row r = Ok empty_row

-- ---- calls on a row that is sound and not empty

-- A preset on the axis of such a row.
abbrev pub place_axis : ℤ → Axis → Result Row Refusal
place_axis p x = cond (in_range p) (Ok (row_of (preset_axis p x))) (Err VALUE)

-- A preset on such a row.
unfoldable pub place_row : ℤ → Row → Result Row Refusal
place_row p r = place_axis p (axis_of r)

-- Preset, on a sampled row and on a counter.
unfoldable pub preset_row : ℤ → Row → Result Row Refusal
preset_row p r = by_status Err (place_row p r) (place_row p r) (status_of r)

-- Arm, on a sampled row only.
unfoldable pub arm_row : Row → Result Row Refusal
arm_row r = by_status Err (Ok (row_of (arm_axis (axis_of r)))) (Err KIND) (status_of r)

-- Acknowledge, on a sampled row only.
unfoldable pub acknowledge_row : Row → Result Row Refusal
acknowledge_row r = by_status Err (Ok (row_of (acknowledge_axis (axis_of r)))) (Err KIND) (status_of r)

-- ---- these calls as data

-- Such a call with its arguments: setup by kind, depth, width and counts per turn, preset by position.
pub data Change : Type 0 where
  Setup : ℕ → ℕ → ℕ → ℕ → Change
  Erase : Change
  Preset : ℤ → Change
  Arm Acknowledge : Change

-- What a call that makes another row makes of a row.
abbrev pub change_row : Change → Row → Result Row Refusal
change_row (Setup kind depth width turn) = setup_row kind depth width turn
change_row Erase = erase_row
change_row (Preset p) = preset_row p
change_row Arm = arm_row
change_row Acknowledge = acknowledge_row
