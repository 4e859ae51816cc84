-- View: what it shows of the named row, and its answer by number: docs/RULES.md, "Calls that name one axis", "Reasons for saying no".
use Rattle.std.specs.Prelude.{ℕ, false, pos, Result, Ok, Err}
use Rattle.position.specs.Position.{position_of}
use Rattle.refusal.specs.Refusal.{number_of, found_in}
use Rattle.axis.specs.Row.{axis_of}
use Rattle.axis.specs.declared.row.Axis.{Axis}
use Rattle.axis.specs.declared.row.Row.{Row}
use Rattle.axis_sound.specs.Sound.{status_of}
use Rattle.row_calls.specs.Calls.{by_status}
use Rattle.row_view.specs.declared.answer.View.{View}
use Rattle.refusal.specs.declared.Refusal.{Refusal}

-- What a view shows: kind, position, the five flags and doubles.
abbrev pub view_of : Axis → View
view_of x = record {
  kind = x.config.kind;
  position = position_of x.word;
  primed = x.flags.primed;
  armed = x.flags.armed;
  homed = x.flags.homed;
  range = x.flags.range;
  index = x.flags.index;
  doubles = x.doubles;
}

-- The answer of a view, on a sampled row and on a counter.
unfoldable pub view_row : Row → Result View Refusal
view_row r = by_status Err (Ok (view_of (axis_of r))) (Ok (view_of (axis_of r))) (status_of r)

-- The view of a refusal: every value is 0.
abbrev pub nothing : View
nothing = record { kind = 0; position = pos 0; primed = false; armed = false; homed = false; range = false; index = false; doubles = 0 }

-- The number of a view's refusal, 0 where there is none.
abbrev pub view_number : Result View Refusal → ℕ
view_number (Ok v) = 0
view_number (Err e) = number_of e

-- The layout number that the refusal carries, 0 where it carries none.
abbrev pub view_found : Result View Refusal → ℕ
view_found (Ok v) = 0
view_found (Err e) = found_in e

-- The values of a view, all 0 on a refusal.
abbrev pub view_value : Result View Refusal → View
view_value (Ok v) = v
view_value (Err e) = nothing
