-- Linear arithmetic on ℤ by `omega`: z is plus z - minus z, one of which is 0. Each operation has one balance, an equation
-- of natural numbers that `omega` reads; an equation or an order of ℤ is one of natural numbers.
use mathlib.Core.Path.{◌≡◌, refl, sym, ap, ◌∙◌, subst}
use mathlib.Core.Bool.{Bool, true, false}
use Prim.Native.Nat.{ℕ, zero, suc, ◌+◌, ◌*◌, ◌-◌, ◌/◌, ◌%◌, ◌≤◌, ◌<◌}
use native.Mathlib.Nat.{mul-le-mul_right, mod-lt, mod-eq_of_lt, add-mul-mod_self_right, div-add-mod'}
use native.Mathlib.Omega.{arith}
use mathlib.Core.Logic.{◌⊎◌, inl, inr, ⊎_elim}
use lib.Dec.{T, ltb, leb→le}
use borrow.Author.Tests.{ltb-true, ltb-false, leb-false}
use lib.IntN.{ℤ, pos, negsuc, neg_ℤ, nat_abs, sub_ℕ, ◌+ℤ◌, ◌-ℤ◌, ◌*ℤ◌}
use lib.Signed.{le_z, lt_z}
use Rattle.integers.specs.Integer.{plus, minus, mod_z, floor_z}

-- A test, with what it says.
pub data Decided (t : Bool) : Type 0 where
  yes : t ≡ true → Decided t
  no : t ≡ false → Decided t

pub test : (t : Bool) → Decided t
test true = yes refl
test false = no refl

pub bal_subℕ : (a b : ℕ) → plus (sub_ℕ a b) + b ≡ a + minus (sub_ℕ a b)
bal_subℕ a b = go (test (ltb a b))
  where
    go : Decided (ltb a b) → plus (sub_ℕ a b) + b ≡ a + minus (sub_ℕ a b)
    go (yes e) = rw e (omega (arith, ltb-true a b e))
    go (no e) = rw e (omega (arith, ltb-false a b e))

pub bal_neg : (x : ℤ) → (plus (neg_ℤ x) ≡ minus x) × (minus (neg_ℤ x) ≡ plus x)
bal_neg (pos zero) = (refl, refl)
bal_neg (pos (suc n)) = (refl, refl)
bal_neg (negsuc n) = (refl, refl)

pub bal_add : (x y : ℤ) → plus (x +ℤ y) + (minus x + minus y) ≡ (plus x + plus y) + minus (x +ℤ y)
bal_add (pos a) (pos b) = omega arith
bal_add (pos a) (negsuc b) = omega (arith, bal_subℕ a (suc b))
bal_add (negsuc a) (pos b) = omega (arith, bal_subℕ b (suc a))
bal_add (negsuc a) (negsuc b) = omega arith

pub bal_sub : (x y : ℤ) → plus (x -ℤ y) + (minus x + plus y) ≡ (plus x + minus y) + minus (x -ℤ y)
bal_sub x y = omega (arith, bal_add x (neg_ℤ y), bal_neg y)

pub bal_mul : (x y : ℤ) → plus (x *ℤ y) + (plus x * minus y + minus x * plus y) ≡ (plus x * plus y + minus x * minus y) + minus (x *ℤ y)
bal_mul (pos a) (pos b) = omega arith
bal_mul (pos a) (negsuc b) = omega (arith, bal_neg (pos (a * suc b)))
bal_mul (negsuc a) (pos b) = omega (arith, bal_neg (pos (suc a * b)))
bal_mul (negsuc a) (negsuc b) = omega arith

pub bal_scale : (x : ℤ) (t : ℕ) → (plus (x *ℤ pos t) ≡ plus x * t) × (minus (x *ℤ pos t) ≡ minus x * t)
bal_scale (pos a) t = (refl, omega arith)
bal_scale (negsuc a) t = omega (arith, bal_neg (pos (suc a * t)))

pub bal_times : (t : ℕ) (x : ℤ) → (plus (pos t *ℤ x) ≡ t * plus x) × (minus (pos t *ℤ x) ≡ t * minus x)
bal_times t (pos a) = (refl, omega arith)
bal_times t (negsuc a) = omega (arith, bal_neg (pos (t * suc a)))

-- of one sign
pub one_sign : (x : ℤ) → plus x * minus x ≡ 0
one_sign (pos n) = omega arith
one_sign (negsuc n) = omega arith

pub sign : (x : ℤ) → (minus x ≡ 0) ⊎ (plus x ≡ 0)
sign (pos n) = inl refl
sign (negsuc n) = inr refl

pub abs_is : (x : ℤ) → nat_abs x ≡ plus x + minus x
abs_is (pos n) = omega arith
abs_is (negsuc n) = omega arith

-- sizes: no split on signs is left to the caller
pub size_add : (x y : ℤ) → plus (x +ℤ y) + minus (x +ℤ y) ≤ (plus x + minus x) + (plus y + minus y)
size_add x y = ⊎_elim (λ e. omega (arith, e, bal_add x y)) (λ e. omega (arith, e, bal_add x y)) (sign (x +ℤ y))

pub size_sub : (x y : ℤ) → plus (x -ℤ y) + minus (x -ℤ y) ≤ (plus x + minus x) + (plus y + minus y)
size_sub x y = ⊎_elim (λ e. omega (arith, e, bal_sub x y)) (λ e. omega (arith, e, bal_sub x y)) (sign (x -ℤ y))

-- an equation
pub eq_z : (x y : ℤ) → plus x + minus y ≡ plus y + minus x → x ≡ y
eq_z (pos a) (pos b) h = ap pos (omega arith)
eq_z (pos a) (negsuc b) h = absurd (omega arith)
eq_z (negsuc a) (pos b) h = absurd (omega arith)
eq_z (negsuc a) (negsuc b) h = ap negsuc (omega arith)

-- an order, as a test leaves it, and back
pub le_z_true : (x y : ℤ) → le_z x y ≡ true → plus x + minus y ≤ plus y + minus x
le_z_true (pos a) (pos b) e = omega (arith, leb→le a b (subst T (sym e) tt))
le_z_true (pos a) (negsuc b) e = absurd (subst T (sym e) tt)
le_z_true (negsuc a) (pos b) e = omega arith
le_z_true (negsuc a) (negsuc b) e = omega (arith, leb→le b a (subst T (sym e) tt))

pub le_z_false : (x y : ℤ) → le_z x y ≡ false → plus y + minus x < plus x + minus y
le_z_false (pos a) (pos b) e = omega (arith, leb-false a b e)
le_z_false (pos a) (negsuc b) e = omega arith
le_z_false (negsuc a) (pos b) e = absurd (subst T e tt)
le_z_false (negsuc a) (negsuc b) e = omega (arith, leb-false b a e)

pub lt_z_true : (x y : ℤ) → lt_z x y ≡ true → plus x + minus y < plus y + minus x
lt_z_true (pos a) (pos b) e = omega (arith, ltb-true a b e)
lt_z_true (pos a) (negsuc b) e = absurd (subst T (sym e) tt)
lt_z_true (negsuc a) (pos b) e = omega arith
lt_z_true (negsuc a) (negsuc b) e = omega (arith, ltb-true b a e)

pub lt_z_false : (x y : ℤ) → lt_z x y ≡ false → plus y + minus x ≤ plus x + minus y
lt_z_false (pos a) (pos b) e = omega (arith, ltb-false a b e)
lt_z_false (pos a) (negsuc b) e = omega arith
lt_z_false (negsuc a) (pos b) e = absurd (subst T e tt)
lt_z_false (negsuc a) (negsuc b) e = omega (arith, ltb-false b a e)

-- z is t but for whole turns of m: z + up * m is t + down * m
pub record Turns (z : ℤ) (m t : ℕ) : Type 0 where
  pub up : ℕ
  pub down : ℕ
  pub is : plus z + up * m ≡ (minus z + t) + down * m

-- then z reduced is t reduced
pub mod_turns : {z : ℤ} {m t : ℕ} → 0 < m → Turns z m t → mod_z z m ≡ t % m
unfolding mod_z
mod_turns {z = pos a} {m} {t} pm h =
    sym (add-mul-mod_self_right a h.up m) ∙ ap (λ (n : ℕ). n % m) (omega (arith, h.is)) ∙ add-mul-mod_self_right t h.down m
mod_turns {z = negsuc a} {m} {t} pm h =
    sym (mod-eq_of_lt (omega (arith, mod-lt a pm))) ∙ sym (add-mul-mod_self_right (m - suc (a % m)) h.up m)
    ∙ ap (λ (n : ℕ). n % m) back ∙ add-mul-mod_self_right t (h.down + a / m + 1) m
  where
    back : m - suc (a % m) + h.up * m ≡ t + (h.down + a / m + 1) * m
    back = omega (arith, h.is, mod-lt a pm, div-add-mod' a m)

-- z is its reduction but for whole turns
pub turns : (z : ℤ) {m : ℕ} → 0 < m → Turns z m (mod_z z m)
unfolding mod_z
turns (pos a) {m} pm = record { up = 0; down = a / m; is = omega (arith, div-add-mod' a m) }
turns (negsuc a) {m} pm = record { up = a / m + 1; down = 0; is = omega (arith, div-add-mod' a m, mod-lt a pm) }

pub mod_z_lt : (z : ℤ) {m : ℕ} → 0 < m → mod_z z m < m
unfolding mod_z
mod_z_lt (pos a) pm = mod-lt a pm
mod_z_lt (negsuc a) pm = omega arith

-- two numbers that are t but for whole turns, and less than a turn apart, are one
pub near_one : {x y : ℤ} {m t : ℕ} → Turns x m t → Turns y m t → plus x + minus y < plus y + minus x + m →
    plus y + minus x < plus x + minus y + m → x ≡ y
near_one {x} {y} {m} {t} h k below above = eq_z x y (same (h.down + k.up) (k.down + h.up) (omega (arith, h.is, k.is)))
  where
    same : (a b : ℕ) → plus x + minus y + b * m ≡ plus y + minus x + a * m → plus x + minus y ≡ plus y + minus x
    same a b apart = by (test (ltb a b)) (test (ltb b a))
      where
        by : Decided (ltb a b) → Decided (ltb b a) → plus x + minus y ≡ plus y + minus x
        by (yes e) _ = absurd (omega (arith, apart, mul-le-mul_right m (ltb-true a b e)))
        by (no e) (yes f) = absurd (omega (arith, apart, mul-le-mul_right m (ltb-true b a f)))
        by (no e) (no f) =
            let q : a ≡ b = omega (arith, ltb-false a b e, ltb-false b a f) in
            omega (arith, apart, ap (λ (n : ℕ). n * m) q)

-- a floor and its remainder give the number back
pub floor_is : (z : ℤ) (s : ℕ) → 0 < s → plus z + minus (floor_z z s) * s ≡ (minus z + plus (floor_z z s) * s) + mod_z z s
unfolding floor_z mod_z
floor_is (pos a) s h = omega (arith, div-add-mod' a s)
floor_is (negsuc a) s h = omega (arith, div-add-mod' a s, mod-lt a h)
