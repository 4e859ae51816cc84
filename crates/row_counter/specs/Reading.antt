-- A reading of a narrow counter, on its row: docs/RULES.md, "Calls that name one axis".
use Rattle.std.specs.Prelude.{ℕ, ℤ, Result, Ok, Err}
use Rattle.position.specs.Position.{word_of, position_of}
use Rattle.refusal.specs.declared.Refusal.TheVariants.{Kind as KIND}
use Rattle.reckon.specs.Widening.{widened}
use Rattle.axis.specs.Row.{axis_of, row_of}
use Rattle.axis.specs.declared.row.Axis.{Axis}
use Rattle.axis.specs.declared.row.Row.{Row}
use Rattle.axis_sound.specs.Sound.{status_of}
use Rattle.row_calls.specs.Change.{changed}
use Rattle.row_calls.specs.Calls.{by_status}
use Rattle.refusal.specs.declared.Refusal.{Refusal}

-- A reading that is accepted sets the position.
abbrev pub read_axis : ℤ → Axis → Axis
read_axis p x = changed x (word_of p) x.flags x.doubles

-- What a reading says on a counter row, by the counter's width and position.
abbrev pub reading_of : ℕ → Axis → Result ℤ Refusal
reading_of x a = widened a.config.width (position_of a.word) x

-- The position that a reading answers beside the row that it makes, or its refusal.
abbrev pub position_read : Result (ℤ × Row) Refusal → Result ℤ Refusal
position_read (Ok (p, r)) = Ok p
position_read (Err e) = Err e

-- The row that a reading makes beside its answer, or its refusal.
abbrev pub row_made : Result (ℤ × Row) Refusal → Result Row Refusal
row_made (Ok (p, r)) = Ok r
row_made (Err e) = Err e

-- The answer of a reading, on a counter only.
unfoldable pub reading_row : ℕ → Row → Result ℤ Refusal
reading_row x r = by_status Err (Err KIND) (reading_of x (axis_of r)) (status_of r)

-- A position that was reckoned is stored.
unfoldable pub stored_row : Row → Result ℤ Refusal → Result Row Refusal
stored_row r (Ok p) = Ok (row_of (read_axis p (axis_of r)))
stored_row r (Err e) = Err e

-- What a reading makes of the row.
unfoldable pub read_row : ℕ → Row → Result Row Refusal
read_row x r = stored_row r (reading_row x r)
