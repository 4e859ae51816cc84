-- What can happen to one axis, and what it makes of the axis's row: docs/RULES.md, "A port sample" and "Calls that name one axis".
use Rattle.std.specs.Prelude.{ℕ, List, [], ◌∷◌}
use Rattle.axis.specs.declared.row.Row.{Row}
use Rattle.row_sample.specs.Sample.{step_row}
use Rattle.runs.specs.Told.{Told, marks, marks_of}
use Rattle.runs.specs.Op.{Op, answer_of, row_after}

-- The axis's four bits of a port sample, or a call that names it.
pub data Event : Type 0 where
  bits : ℕ → Event
  asked : Op → Event

-- A row after an event.
unfoldable pub row_next : Row → Event → Row
row_next r (bits n) = (step_row r n).row
row_next r (asked o) = row_after r o

-- A row after events, newest first.
unfoldable pub row_since : Row → List Event → Row
row_since r [] = r
row_since r (e ∷ h) = row_next (row_since r h) e

-- What a row alone is told by an event.
unfoldable pub told_of : Row → Event → Told
told_of r (bits n) = marks (marks_of (step_row r n))
told_of r (asked o) = answer_of o r
