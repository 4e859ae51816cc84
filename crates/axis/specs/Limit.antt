-- How many axes there may be together: docs/RULES.md, "One row, four words".
use Rattle.std.specs.Prelude.{ℕ}

-- A table holds from 1 axis to this many; the code's `AXES`.
unfoldable pub most_axes : ℕ
most_axes = 16
