-- Signed 64-bit numbers of the machine, in terms of plus and minus. Assumes nothing.
use mathlib.Core.Path.{◌≡◌, refl, sym, ◌∙◌, subst}
use Prim.Native.Nat.{ℕ, suc, ◌+◌, ◌-◌, ◌/◌, ◌^◌, ◌≤◌, ◌<◌}
use native.Mathlib.Omega.{arith}
use mathlib.Core.Bool.{true, false}
use native.Mathlib.Nat.{zero-div}
use borrow.Author.Tests.{lt-ltb, le-ltb, leb-true, leb-false}
use lib.Dec.{T, ltb}
use lib.IntN.{ℤ, pos, negsuc, neg_ℤ, nat_abs}
use lib.Signed.{mag, non_neg, le_z, lt_z, quot_z}
use mir.Syntax.{w64}
use mir.Val.{SFits, Fits, to_z, of_z}
use mir.Facts.{to_z-of_z}
use Rattle.integers.specs.Integer.{plus, minus}

-- z fits an i64, and back
pub fits_i64 : (z : ℤ) → plus z < 2 ^ 63 → minus z ≤ 2 ^ 63 → SFits w64 z
fits_i64 (pos n) h k = record { sfits = h }
fits_i64 (negsuc n) h k = record { sfits = k }

pub i64_fits : {z : ℤ} → SFits w64 z → (plus z < 2 ^ 63) × (minus z ≤ 2 ^ 63)
i64_fits {z = pos n} h = (h.sfits, omega arith)
i64_fits {z = negsuc n} h = (omega arith, h.sfits)

pub fits_size : (z : ℤ) → plus z + minus z < 2 ^ 63 → SFits w64 z
fits_size z h = fits_i64 z (omega arith) (omega arith)

-- what the machine reads back
pub back : {z : ℤ} → SFits w64 z → to_z w64 (of_z w64 z) ≡ z
back h = to_z-of_z {w = w64} h

-- one of the two is 0
pub no_neg : (z : ℤ) → minus z ≤ plus z → minus z ≡ 0
no_neg (pos n) h = refl
no_neg (negsuc n) h = absurd (omega arith)

pub no_pos : (z : ℤ) → plus z ≤ minus z → plus z ≡ 0
no_pos (pos n) h = omega arith
no_pos (negsuc n) h = refl

-- a number that is not negative, cast to u64
pub to_u64 : (z : ℤ) → SFits w64 z → minus z ≤ plus z → T (non_neg (to_z w64 (of_z w64 z))) × Fits w64 (nat_abs (to_z w64 (of_z w64 z)))
to_u64 (pos n) f h = rw (back f) (tt, record { fits = omega (arith, f.sfits) })
to_u64 (negsuc n) f h = absurd (omega arith)

pub abs_nonneg : (z : ℤ) → minus z ≤ plus z → nat_abs z ≡ plus z
abs_nonneg (pos n) h = refl
abs_nonneg (negsuc n) h = absurd (omega arith)

-- the two tests of  -(k + 1) <= z && z < k + 2
pub upper : (k : ℕ) (z : ℤ) → le_z (negsuc k) z ≡ true → lt_z z (pos (suc (suc k))) ≡ ltb (nat_abs z) (suc (suc k))
upper k (pos a) h = refl
upper k (negsuc a) h = sym (lt-ltb (suc a) (suc (suc k)) (omega (arith, leb-true a k h)))

pub lower : (k : ℕ) (z : ℤ) → le_z (negsuc k) z ≡ false → le_z (negsuc k) z ≡ ltb (nat_abs z) (suc (suc k))
lower k (pos a) h = absurd (subst T h tt)
lower k (negsuc a) h = h ∙ sym (le-ltb (suc a) (suc (suc k)) (omega (arith, leb-false a k h)))

-- a quotient toward zero, by a divisor above 0
pub quot_up : (x : ℤ) (m : ℕ) → minus x ≤ plus x → quot_z x (pos m) ≡ pos (plus x / m)
quot_up (pos a) m h = refl
quot_up (negsuc a) m h = absurd (omega arith)

pub quot_down : (x : ℤ) (m : ℕ) → plus x ≤ minus x → quot_z x (pos m) ≡ neg_ℤ (pos (minus x / m))
quot_down (pos a) m h = let z : a ≡ 0 = omega arith in rw (z, zero-div)
quot_down (negsuc a) m h = refl

-- the 64 bits of a number
pub bits_neg : (z : ℤ) → plus z < minus z → of_z w64 z ≡ 2 ^ 64 - minus z
bits_neg (pos n) h = absurd (omega arith)
bits_neg (negsuc n) h = refl

pub bits_pos : (z : ℤ) → minus z ≤ plus z → of_z w64 z ≡ plus z
bits_pos (pos n) h = refl
bits_pos (negsuc n) h = absurd (omega arith)

-- a signed call's result, read back
pub back_ok : {z : ℤ} → mag z < 2 ^ 63 → to_z w64 (of_z w64 z) ≡ z
back_ok h = back (record { sfits = h })
