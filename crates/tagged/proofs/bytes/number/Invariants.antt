use mathlib.Core.Path.{◌≡◌}
use Rattle.tagged.specs.Bytes.{number_at}
use Rattle.tagged.proofs.bytes.number.Given as goal

abbrev pub invariant-loop-byte : goal.invariant-loop-byte
invariant-loop-byte l = l.v ≡ number_at l.byte-items 0 l.byte-index
