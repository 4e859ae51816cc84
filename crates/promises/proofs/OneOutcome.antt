-- Each public call of reckon and speed admits one outcome; the laws of record, of the table's rooms and of the host's say so of theirs.
use Rattle.std.specs.Prelude.{Result}
use mathlib.Core.Path.{◌≡◌}
use Prim.Native.Nat.{ℕ}
use lib.IntN.{ℤ}
use Rattle.refusal.proofs.OutcomeLaws.{one}
use Rattle.reckon.specs.Widening.{widened}
use Rattle.speed.specs.Speed.{speed_by_count}
use Rattle.refusal.specs.declared.Refusal.{Refusal}
use Rattle.speed.specs.declared.Quotient.{Quotient}

-- reckon::widening::widen.
pub widen_one : (width : ℕ) (position : ℤ) (reading : ℕ) (r s : Result ℤ Refusal) → r ≡ widened width position reading →
    s ≡ widened width position reading → r ≡ s
widen_one width position reading r s = one

-- speed::by_count.
pub by_count_one : (difference : ℤ) (samples rate : ℕ) (r s : Result Quotient Refusal) → r ≡ speed_by_count difference samples rate →
    s ≡ speed_by_count difference samples rate → r ≡ s
by_count_one difference samples rate r s = one
