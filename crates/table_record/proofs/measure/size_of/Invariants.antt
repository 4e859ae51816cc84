use mathlib.Core.Path.{◌≡◌}
use Rattle.table_record.specs.Saving.{size_to}
use Rattle.table_record.proofs.measure.size_of.Given as goal

-- What holds with k rows looked at.
abbrev pub invariant-loop-k : goal.invariant-loop-k
invariant-loop-k l = l.size ≡ size_to l.k l.rows
