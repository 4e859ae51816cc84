-- Limits of plain numbers, how far apart two of them are, and what a negative and a sum do to a product.
use mathlib.Core.Path.{◌≡◌, refl, sym, ap}
use mathlib.Core.Bool.{true, ◌&&◌, and-eq-true_iff}
use mathlib.Core.Logic.{◌⊎◌, inl, inr, ⊎_elim}
use Prim.Native.Nat.{ℕ, zero, suc, ◌+◌, ◌*◌, ◌≤◌, ◌<◌}
use native.Mathlib.Omega.{arith}
use borrow.Author.Tests.{leb-true}
use lib.Dec.{leb}
use lib.IntN.{ℤ, pos, negsuc, neg_ℤ, nat_abs, ◌+ℤ◌, ◌-ℤ◌, ◌*ℤ◌, neg_ℤ-neg_ℤ, *ℤ-negsuc, *ℤ_comm}
use Rattle.integers.specs.Integer.{plus, minus}
use Rattle.integers.proofs.Balance.{abs_is, bal_add, bal_sub, bal_scale, eq_z, sign}

-- A number from a to b.
pub between : (a b x : ℕ) → (leb a x && leb x b) ≡ true → (a ≤ x) × (x ≤ b)
between a b x h = let e = (and-eq-true_iff (leb a x) (leb x b)).0 h in (leb-true a x e.0, leb-true x b e.1)

-- ---- distances

pub far_cases : (x y : ℤ) → (plus x + minus y ≡ nat_abs (x -ℤ y) + (plus y + minus x))
    ⊎ (plus y + minus x ≡ nat_abs (x -ℤ y) + (plus x + minus y))
far_cases x y =
    ⊎_elim (λ e. inl (omega (arith, e, abs_is (x -ℤ y), bal_sub x y))) (λ e. inr (omega (arith, e, abs_is (x -ℤ y), bal_sub x y)))
    (sign (x -ℤ y))

pub far_sub : (x y : ℤ) → (plus x + minus y ≤ nat_abs (x -ℤ y) + (plus y + minus x))
    × (plus y + minus x ≤ nat_abs (x -ℤ y) + (plus x + minus y))
far_sub x y = ⊎_elim (λ e. omega (arith, e)) (λ e. omega (arith, e)) (far_cases x y)

-- ---- negatives

pub abs_neg : (x : ℤ) → nat_abs (neg_ℤ x) ≡ nat_abs x
abs_neg (pos zero) = refl
abs_neg (pos (suc n)) = refl
abs_neg (negsuc n) = refl

pub scale_neg : (v : ℤ) (t : ℕ) → neg_ℤ v *ℤ pos t ≡ neg_ℤ (v *ℤ pos t)
scale_neg (pos zero) t = let e : 0 * t ≡ 0 = omega arith in rw e
scale_neg (pos (suc n)) t = refl
scale_neg (negsuc n) t = sym (neg_ℤ-neg_ℤ (pos (suc n) *ℤ pos t))

pub neg_left : (x y : ℤ) → neg_ℤ x *ℤ y ≡ neg_ℤ (x *ℤ y)
neg_left x (pos t) = scale_neg x t
neg_left x (negsuc t) = rw (*ℤ-negsuc (neg_ℤ x) t, *ℤ-negsuc x t, scale_neg x (suc t))

pub neg_both : (x y : ℤ) → neg_ℤ x *ℤ neg_ℤ y ≡ x *ℤ y
neg_both x y = rw (neg_left x (neg_ℤ y), *ℤ_comm x (neg_ℤ y), neg_left y x, *ℤ_comm y x) (neg_ℤ-neg_ℤ (x *ℤ y))

-- ---- sides of zero, and sums

-- A number on one side of 0 is not on the other.
pub no_plus : (x : ℤ) → 0 < minus x → plus x ≡ 0
no_plus (pos a) h = absurd (let none : ⊥ = omega arith in none)
no_plus (negsuc a) h = refl

pub no_minus : (x : ℤ) → 0 < plus x → minus x ≡ 0
no_minus (pos a) h = refl
no_minus (negsuc a) h = absurd (let none : ⊥ = omega arith in none)

-- A sum t times over.
pub scale_add : (x y : ℤ) (t : ℕ) → (x +ℤ y) *ℤ pos t ≡ (x *ℤ pos t) +ℤ (y *ℤ pos t)
scale_add x y t =
    let a = bal_scale (x +ℤ y) t in
    let b = bal_add (x *ℤ pos t) (y *ℤ pos t) in
    let c = bal_scale x t in
    let d = bal_scale y t in
    eq_z _ _ (omega (arith, ap (λ (m : ℕ). m * t) (bal_add x y)))
