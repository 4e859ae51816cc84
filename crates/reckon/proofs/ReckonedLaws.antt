-- The numbers of an answer tell it apart from every other.
use Rattle.std.specs.Prelude.{Result, Ok, Err}
use Prim.Native.Nat.{ℕ}
use mathlib.Core.Path.{◌≡◌, sym, ap}
use native.Mathlib.Omega.{arith}
use lib.IntN.{ℤ}
use Rattle.refusal.specs.declared.Refusal.{Refusal}
use Rattle.refusal.proofs.RefusalLaws.{told_apart, above_zero}
use Rattle.reckon.specs.Reckoned.{refusal_in, found_by, value_in}

-- Two answers with one refusal number, one found number and one value are one answer.
pub reckoned_apart : (a b : Result ℤ Refusal) → refusal_in a ≡ refusal_in b → found_by a ≡ found_by b → value_in a ≡ value_in b → a ≡ b
reckoned_apart (Ok v) (Ok u) n f e = ap Ok e
reckoned_apart (Ok v) (Err d) n f e = absurd (above_zero d (sym n))
reckoned_apart (Err d) (Ok u) n f e = absurd (above_zero d n)
reckoned_apart (Err d) (Err g) n f e = ap Err (told_apart d g n f)

-- What is refused is no number.
pub refused_not : (p : ℤ) (e : Refusal) → Err e ≡ Ok p → ⊥
refused_not p e h = let z : ◌≡◌ {A = ℕ} 0 1 = cc in omega arith
