-- Speeds over one divisor and at one rate add up to what was counted: nothing drifts.
use mathlib.Core.Path.{◌≡◌, refl, sym, ap}
use mathlib.Core.List.{List}
use mathlib.Core.Logic.{⊎_elim}
use Prim.Native.Nat.{ℕ, ◌*◌, ◌≤◌, ◌<◌}
use native.Mathlib.Omega.{arith}
use borrow.Author.Tests.{leb-true, leb-false}
use lib.Dec.{leb}
use lib.IntN.{ℤ, pos, negsuc, nat_abs, ◌+ℤ◌, ◌-ℤ◌, ◌*ℤ◌}
use Rattle.integers.specs.Integer.{plus, minus}
use Rattle.integers.proofs.Balance.{Decided, yes, no, test, sign, eq_z, abs_is, bal_add, bal_sub, bal_times, bal_scale, bal_mul, size_add}
use Rattle.integers.proofs.NumberLaws.{no_plus, no_minus, scale_add}
use Rattle.speed.specs.declared.Quotient.{Quotient}
use Rattle.speed.specs.Rounding.{divided, Divides}
use Rattle.speed.specs.Sum.{sum_of, numbers_of, remainders_of, Intervals, start, next, Carried, carried_over, carried_by, step_of}
use Rattle.speed.proofs.RoundingLaws.{above, left_back, divides, divides_only}

-- ---- sums of whole numbers

-- Two sums added up, number by number.
add_both : (x r X R : ℤ) → (x +ℤ X) +ℤ (r +ℤ R) ≡ (x +ℤ r) +ℤ (X +ℤ R)
add_both x r X R =
    eq_z _ _
    (omega (
      arith,
      bal_add (x +ℤ X) (r +ℤ R),
      bal_add x X,
      bal_add r R,
      bal_add (x +ℤ r) (X +ℤ R),
      bal_add x r,
      bal_add X R,
    ))

-- S is a sum and c its carry, v and r a number and its remainder, and k and d those of c and r together.
carry_on : (S c v r k d : ℤ) → k +ℤ d ≡ c +ℤ r → (S +ℤ (v +ℤ k)) +ℤ d ≡ (v +ℤ r) +ℤ (S +ℤ c)
carry_on S c v r k d e =
    eq_z _ _
    (omega (
      arith,
      bal_add (S +ℤ (v +ℤ k)) d,
      bal_add S (v +ℤ k),
      bal_add v k,
      bal_add (v +ℤ r) (S +ℤ c),
      bal_add v r,
      bal_add S c,
      bal_add k d,
      bal_add c r,
      ap plus e,
      ap minus e,
    ))

-- ---- a day

-- Intervals of which P is true are such of which Q is, where P says as much.
pub says_more : {P Q : ℤ → Quotient → Type 0} → ((D : ℤ) (q : Quotient) → P D q → Q D q) → {counts : List ℤ} {answers : List Quotient} →
    Intervals P counts answers → Intervals Q counts answers
says_more f start = start
says_more f (next D q h rest) = next D q (f D q h) (says_more f rest)

over_is : (T : ℕ) (c : Carried) (q : Quotient) → 0 < T → Divides (c.carry +ℤ q.remainder) T (carried_over T c q)
unfolding carried_over
over_is T c q some = divides (c.carry +ℤ q.remainder) T some

module _ (T F : ℕ) where
  -- q is the quotient of 1000 F times the counts D over T: what both speeds answer at rate F with divisor T.
  abbrev pub Spanned : ℤ → Quotient → Type 0
  Spanned D q = Divides (D *ℤ pos (1000 * F)) T q

  -- Over any list of intervals divisor times the sum of the numbers, plus the sum of the remainders, is 1000 F times the counts.
  pub day_exact : {counts : List ℤ} {answers : List Quotient} → Intervals Spanned counts answers →
      (sum_of (numbers_of answers) *ℤ pos T) +ℤ sum_of (remainders_of answers) ≡ sum_of counts *ℤ pos (1000 * F)
  unfolding sum_of
  day_exact start = eq_z _ _ (omega (arith, bal_scale (pos 0) T, bal_scale (pos 0) (1000 * F), bal_add (pos 0 *ℤ pos T) (pos 0)))
  day_exact (next {counts} {answers} D q h rest) =
      let v = sum_of (numbers_of answers) in
      let r = sum_of (remainders_of answers) in
      rw (
        scale_add q.number v T,
        scale_add D (sum_of counts) (1000 * F),
        add_both (q.number *ℤ pos T) q.remainder (v *ℤ pos T) r,
        h.exact,
        day_exact rest,
      )

  -- With a carry: divisor times what was added, plus the carry, is 1000 F times the counts, and the carry is at most half the divisor in
  -- size, after any list.
  pub day_carried : {counts : List ℤ} {answers : List Quotient} → Intervals Spanned counts answers →
      (((carried_by T answers).sum *ℤ pos T) +ℤ (carried_by T answers).carry ≡ sum_of counts *ℤ pos (1000 * F))
      × (2 * nat_abs (carried_by T answers).carry ≤ T)
  unfolding sum_of carried_by
  day_carried start =
      (eq_z _ _ (omega (arith, bal_scale (pos 0) T, bal_scale (pos 0) (1000 * F), bal_add (pos 0 *ℤ pos T) (pos 0))), omega arith)
  day_carried (next {counts} {answers} D q h rest) =
      let c = carried_by T answers in
      let k = carried_over T c q in
      let l = over_is T c q (above h) in (
        rw (
          scale_add c.sum (q.number +ℤ k.number) T,
          scale_add q.number k.number T,
          scale_add D (sum_of counts) (1000 * F),
          carry_on (c.sum *ℤ pos T) c.carry (q.number *ℤ pos T) q.remainder (k.number *ℤ pos T) k.remainder l.exact,
          h.exact,
          (day_carried rest).0,
        ),
        l.small,
      )

-- ---- what is carried over, without dividing

module _ (T : ℕ) (x : ℤ) (some : 0 < T) (fits : nat_abs x ≤ T) where
  -- what k leaves of x
  abbrev left : ℤ → ℤ
  left k = x -ℤ (k *ℤ pos T)

  abbrev AtMostHalf : ℤ → Type 0
  AtMostHalf k = (2 * nat_abs (left k) ≤ T) × (2 * nat_abs (left k) ≡ T → 0 < minus (k *ℤ left k))

  -- k is the number if what it leaves, of either sign, is at most half of T, with the half on the other side of zero
  by_sign : (k : ℤ) → (minus (left k) ≡ 0 → AtMostHalf k) → (plus (left k) ≡ 0 → AtMostHalf k) →
      divided x T ≡ record { number = k; remainder = left k; divisor = T }
  by_sign k above below =
      let h = ⊎_elim above below (sign (left k)) in
      sym (divides_only x T (record { number = k; remainder = left k; divisor = T })
      (record { over = refl; exact = left_back (k *ℤ pos T) x; small = h.0; half = h.1 }))

  up : T ≤ 2 * plus x → divided x T ≡ record { number = pos 1; remainder = left (pos 1); divisor = T }
  up h =
      let z = no_minus x (omega arith) in
      let b = bal_sub x (pos 1 *ℤ pos T) in
      let a = abs_is x in
      let n = abs_is (left (pos 1)) in
      let m = bal_times 1 (left (pos 1)) in
      by_sign (pos 1) (λ e. (omega arith, λ f. omega arith)) (λ e. (omega arith, λ f. omega arith))

  down : T ≤ 2 * minus x → divided x T ≡ record { number = negsuc 0; remainder = left (negsuc 0); divisor = T }
  down h =
      let z = no_plus x (omega arith) in
      let b = bal_sub x (negsuc 0 *ℤ pos T) in
      let c = bal_scale (negsuc 0) T in
      let a = abs_is x in
      let n = abs_is (left (negsuc 0)) in
      let m = bal_mul (negsuc 0) (left (negsuc 0)) in
      by_sign (negsuc 0) (λ e. (omega arith, λ f. omega arith)) (λ e. (omega arith, λ f. omega arith))

  stay : 2 * plus x < T → 2 * minus x < T → divided x T ≡ record { number = pos 0; remainder = left (pos 0); divisor = T }
  stay h l =
      let b = bal_sub x (pos 0 *ℤ pos T) in
      let n = abs_is (left (pos 0)) in
      by_sign (pos 0) (λ e. (omega arith, λ f. absurd (omega arith))) (λ e. (omega arith, λ f. absurd (omega arith)))

  -- For x at most T in size the number is 1, -1 or 0.
  pub step_is : divided x T ≡ record { number = step_of T x; remainder = left (step_of T x); divisor = T }
  unfolding step_of
  step_is = go (test (leb T (2 * plus x))) (test (leb T (2 * minus x)))
    where
      go : Decided (leb T (2 * plus x)) → Decided (leb T (2 * minus x)) →
          divided x T ≡ record { number = step_of T x; remainder = left (step_of T x); divisor = T }
      go (yes e) l = rw e (up (leb-true T (2 * plus x) e))
      go (no e) (yes l) = rw (e, l) (down (leb-true T (2 * minus x) l))
      go (no e) (no l) = rw (e, l) (stay (leb-false T (2 * plus x) e) (leb-false T (2 * minus x) l))

-- The carry after any list and the remainder of one answer more are together at most T in size, so what is carried over is found without
-- dividing.
pub carried_step : (T F : ℕ) {counts : List ℤ} {answers : List Quotient} → Intervals (Spanned T F) counts answers →
    (D : ℤ) (q : Quotient) → Spanned T F D q → let x = (carried_by T answers).carry +ℤ q.remainder in
    carried_over T (carried_by T answers) q ≡ record { number = step_of T x; remainder = x -ℤ (step_of T x *ℤ pos T); divisor = T }
unfolding carried_over
carried_step T F {answers = answers} day D q h =
    let c = (carried_by T answers).carry in
    let k = h.small in
    let l = (day_carried T F day).1 in
    let a = abs_is c in
    let b = abs_is q.remainder in
    step_is T (c +ℤ q.remainder) (above h) (omega (arith, size_add c q.remainder, abs_is (c +ℤ q.remainder)))
