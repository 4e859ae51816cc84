use mathlib.Core.Path.{◌≡◌}
use lib.Seq.{sets}
use Rattle.tagged.specs.Bytes.{bytes_of}
use Rattle.tagged.proofs.bytes.put_number.Given as goal

-- what is left to write, written over the present buffer, gives the whole
abbrev pub invariant-loop-j : goal.invariant-loop-j
invariant-loop-j l = sets l.buf l.at (bytes_of l.j l.rest) ≡ sets l.initial.buf l.at (bytes_of l.n l.v)
