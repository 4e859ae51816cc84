-- What a speed by count answers, that nothing else would do, and how near it is to what it stands for.
use Rattle.std.specs.Prelude.{Result, Ok, Err}
use mathlib.Core.Path.{◌≡◌, sym, ap, subst}
use mathlib.Core.Bool.{true, ◌&&◌, and-eq-true_iff}
use mathlib.Core.Logic.{⊎_elim}
use Prim.Native.Nat.{ℕ, zero, suc, ◌+◌, ◌*◌, ◌-◌, ◌^◌, ◌≤◌, ◌<◌}
use native.Mathlib.Nat.{mul-le-mul, mul-le-mul_right}
use native.Mathlib.Omega.{arith}
use borrow.Author.Tests.{ltb-true, lt-ltb, le-leb}
use lib.IntN.{ℤ, pos, nat_abs, ◌-ℤ◌, ◌*ℤ◌}
use Rattle.integers.specs.Integer.{plus, minus, mod_z, floor_z}
use Rattle.integers.proofs.Balance.{Decided, yes, no, test, abs_is, bal_sub, bal_scale, mod_z_lt, floor_is}
use Rattle.integers.proofs.NumberLaws.{between, far_cases, far_sub}
use Rattle.refusal.specs.declared.Refusal.{Refusal}
use Rattle.refusal.specs.declared.Refusal.TheVariants.{Value}
use Rattle.refusal.proofs.RefusalLaws.{told_apart, above_zero}
use Rattle.speed.specs.declared.Quotient.{Quotient}
use Rattle.speed.specs.Rounding.{divided, Divides}
use Rattle.speed.specs.Speed.{speed_refusal, speed_found, quotient_in, good_count, good_samples, good_rate, good_speed, speed_by_count}
use Rattle.speed.specs.Speed.{counted_from, angle_bound}
use Rattle.speed.proofs.RoundingLaws.{divides, divides_only, near}

-- ---- a speed by its numbers

-- What is refused is no speed.
pub unsped_not : (q : Quotient) (e : Refusal) → Err e ≡ Ok q → ⊥
unsped_not q e h = let z : ◌≡◌ {A = ℕ} 0 1 = cc in omega arith

-- Two speeds with one refusal number, one found number and one quotient are one speed.
pub speed_told : (a b : Result Quotient Refusal) → speed_refusal a ≡ speed_refusal b → speed_found a ≡ speed_found b → quotient_in a ≡ quotient_in b → a ≡ b
speed_told (Ok p) (Ok q) n f e = ap Ok e
speed_told (Ok p) (Err d) n f e = absurd (above_zero d (sym n))
speed_told (Err d) (Ok q) n f e = absurd (above_zero d n)
speed_told (Err d) (Err g) n f e = ap Err (told_apart d g n f)

-- ---- the limits, and the size of 1000 D F

pub record Limits (D : ℤ) (T F : ℕ) : Type 0 where
  pub count : nat_abs D < 2 ^ 31
  pub samples : (1 ≤ T) × (T ≤ 2 ^ 32 - 1)
  pub rate : (1 ≤ F) × (F ≤ 1000000)

pub limits : (D : ℤ) (T F : ℕ) → good_speed D T F ≡ true → Limits D T F
unfolding good_speed good_count
limits D T F h =
    let a = (and-eq-true_iff (good_count D && good_samples T) (good_rate F)).0 h in
    let b = (and-eq-true_iff (good_count D) (good_samples T)).0 a.0 in
    record { count = ltb-true (nat_abs D) (2 ^ 31) b.0; samples = between 1 (2 ^ 32 - 1) T b.1; rate = between 1 1000000 F a.1 }

-- Within the limits nothing is refused.
pub limits_good : (D : ℤ) (T F : ℕ) → Limits D T F → good_speed D T F ≡ true
unfolding good_speed good_count
limits_good D T F k =
    rw (
      lt-ltb (nat_abs D) (2 ^ 31) k.count,
      le-leb 1 T k.samples.0,
      le-leb T (2 ^ 32 - 1) k.samples.1,
      le-leb 1 F k.rate.0,
      le-leb F 1000000 k.rate.1,
    )

pub product_small : (D : ℤ) (T F : ℕ) → Limits D T F → nat_abs (D *ℤ pos (1000 * F)) < 2 ^ 61
product_small D T F k =
    omega (
      arith,
      abs_is (D *ℤ pos (1000 * F)),
      bal_scale D (1000 * F),
      mul-le-mul {n₁ = plus D + minus D} {m₁ = 1000 * F} {n₂ = 2 ^ 31 - 1} {m₂ = 1000000000} (omega (arith, abs_is D, k.count))
          (omega (arith, k.rate)),
    )

-- ---- both bounds

-- D counts of s are the angles' difference, but for the two remainders
counted_is : (α β : ℤ) (s : ℕ) → 0 < s →
    plus (counted_from α β s) * s + (plus α + minus β) + mod_z β s ≡ minus (counted_from α β s) * s + (plus β + minus α) + mod_z α s
counted_is α β s h =
    omega (arith, floor_is α s h, floor_is β s h, ap (λ (m : ℕ). m * s) (bal_sub (floor_z β s) (floor_z α s)))

-- one way, in natural numbers: each fact times what it needs
one_way : (pv nv pd nd T k f a b rα rβ pΔ nΔ : ℕ)
    → 2 * pv + 2 * (nd * f) ≤ 2 * (pd * f) + 2 * nv + T → pd * suc k + a + rβ ≡ nd * suc k + b + rα → pΔ + a ≡ b + nΔ → rα ≤ k
    → 2 * (pv * suc k) + 2 * (nΔ * f) ≤ 2 * (pΔ * f) + 2 * (nv * suc k) + (2 * f * k + T * suc k)
one_way pv nv pd nd T k f a b rα rβ pΔ nΔ near c d h =
    omega (arith, mul-le-mul_right (suc k) near, ap (λ (m : ℕ). m * f) c, ap (λ (m : ℕ). m * f) d, mul-le-mul_right f h)

-- What divides 1000 F times a difference of floors lies no farther than that from what the angles give.
pub divides_shaft : (α β : ℤ) (s T F : ℕ) {q : Quotient} → 0 < s → Divides (counted_from α β s *ℤ pos (1000 * F)) T q →
    2 * nat_abs (((q.number *ℤ pos T) *ℤ pos s) -ℤ ((β -ℤ α) *ℤ pos (1000 * F))) ≤ angle_bound s T F
unfolding angle_bound
divides_shaft α β zero T F {q = q} hs h = elim hs [ ]
divides_shaft α β (suc k) T F {q} hs h =
    let f = 1000 * F in
    let D = counted_from α β (suc k) in
    let X = q.number *ℤ pos T in
    let Δ = β -ℤ α in
    let a = plus α + minus β in
    let b = plus β + minus α in
    let c = counted_is α β (suc k) hs in
    let n = far_sub X (D *ℤ pos f) in
    let l = near h in
    let e = bal_scale D f in
    let up = one_way (plus X) (minus X) (plus D) (minus D) T k f a b (mod_z α (suc k)) (mod_z β (suc k)) (plus Δ) (minus Δ)
    (omega arith) c (omega (arith, bal_sub β α)) (omega (arith, mod_z_lt α hs)) in
    let down = one_way (minus X) (plus X) (minus D) (plus D) T k f b a (mod_z β (suc k)) (mod_z α (suc k)) (minus Δ) (plus Δ)
    (omega arith) (sym c) (omega (arith, bal_sub β α)) (omega (arith, mod_z_lt β hs)) in
    let x = bal_scale X (suc k) in
    let y = bal_scale Δ f in
    let o : 2000 * F * (suc k - 1) ≡ 2000 * F * k = ap (λ (m : ℕ). 2000 * F * m) (omega arith) in
    ⊎_elim (λ q. omega (arith, q)) (λ q. omega (arith, q)) (far_cases (X *ℤ pos (suc k)) (Δ *ℤ pos f))

-- a speed is given only where every argument is within its limits, and is the quotient
module _ (D : ℤ) (T F : ℕ) (q : Quotient) (h : speed_by_count D T F ≡ Ok q) where
  pub speed_given : (good_speed D T F ≡ true) × (q ≡ divided (D *ℤ pos (1000 * F)) T)
  unfolding speed_by_count
  speed_given = go (test (good_speed D T F))
    where
      go : Decided (good_speed D T F) → (good_speed D T F ≡ true) × (q ≡ divided (D *ℤ pos (1000 * F)) T)
      go (no e) = absurd (unsped_not q Value (rw e at h))
      go (yes e) = (e, cc (rw e at h))

  -- Number times T plus remainder is exactly 1000 D F, and the remainder is at most half of T in size.
  pub speed_divides : Divides (D *ℤ pos (1000 * F)) T q
  speed_divides =
      let some : 0 < T = omega (arith, (limits D T F speed_given.0).samples) in
      subst (Divides (D *ℤ pos (1000 * F)) T) (sym speed_given.1) (divides (D *ℤ pos (1000 * F)) T some)

  -- So its divisor is from 1 to 2 ^ 32 - 1.
  pub speed_divisor : (1 ≤ q.divisor) × (q.divisor ≤ 2 ^ 32 - 1)
  speed_divisor = rw speed_divides.over (limits D T F speed_given.0).samples

  -- The first bound: twice |v T - 1000 D F| is at most T.
  pub speed_near : 2 * nat_abs ((q.number *ℤ pos T) -ℤ (D *ℤ pos (1000 * F))) ≤ T
  speed_near = near speed_divides

-- Within the limits no other number and remainder than those that divide are answered.
pub speed_only : (D : ℤ) (T F : ℕ) → good_speed D T F ≡ true → (q : Quotient) → Divides (D *ℤ pos (1000 * F)) T q →
    speed_by_count D T F ≡ Ok q
unfolding speed_by_count
speed_only D T F good q h = rw good (ap Ok (sym (divides_only (D *ℤ pos (1000 * F)) T q h)))

-- The second bound: where D is the difference of two counts that are floors of shaft angles in s-ths of a count, twice
-- |v T s - 1000 F (angle difference)| is at most 2000 F (s - 1) + T s.
pub speed_of_shaft : (α β : ℤ) (s T F : ℕ) (q : Quotient) → 0 < s → speed_by_count (counted_from α β s) T F ≡ Ok q →
    2 * nat_abs (((q.number *ℤ pos T) *ℤ pos s) -ℤ ((β -ℤ α) *ℤ pos (1000 * F))) ≤ angle_bound s T F
speed_of_shaft α β s T F q some h = divides_shaft α β s T F some (speed_divides (counted_from α β s) T F q h)
