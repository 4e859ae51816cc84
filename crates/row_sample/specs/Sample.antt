-- A sample on a row: docs/RULES.md, "A port sample".
use Rattle.std.specs.Prelude.{ℕ, Bool, true, false}
use Rattle.axis.specs.Row.{axis_of, row_of}
use Rattle.axis.specs.declared.row.Row.{Row}
use Rattle.axis_sound.specs.Sound.{status_of}
use Rattle.axis_sound.specs.declared.Status.{Status}
use Rattle.axis_sound.specs.declared.Status.TheVariants.{Empty, Sampled, Counter, Broken}
use Rattle.axis_filter.specs.Lines.{raw_of}
use Rattle.axis_sample.specs.Step.{step_axis}
use Rattle.axis_sample.specs.declared.step.Stepped.{Stepped}
use Rattle.row_sample.specs.declared.SteppedRow.{SteppedRow}

-- An axis after a sample as its row, with its bits of the answer.
abbrev pub packed : Stepped → SteppedRow
packed s = record { row = row_of s.axis; double = s.double; index = s.index; broken = false }

-- A row that a sample leaves as it was, and whether it is broken.
abbrev pub kept : Row → Bool → SteppedRow
kept r b = record { row = r; double = false; index = false; broken = b }

-- A sample on a row, by what the row is: a sampled one steps, any other stays, and only a broken one is marked.
unfoldable pub step_by : Status → Row → ℕ → SteppedRow
step_by Sampled r nibble = packed (step_axis (axis_of r) (raw_of nibble))
step_by Empty r nibble = kept r false
step_by Counter r nibble = kept r false
step_by Broken r nibble = kept r true

-- A sample on a row.
unfoldable pub step_row : Row → ℕ → SteppedRow
step_row r nibble = step_by (status_of r) r nibble
