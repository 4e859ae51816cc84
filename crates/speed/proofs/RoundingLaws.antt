-- Division to the nearest: the machine's signed quotient is it, and number and remainder are the only ones, for any numerator and divisor.
use mathlib.Core.Path.{◌≡◌, refl, sym, ap, ◌∙◌, subst}
use mathlib.Core.Logic.{⊎_elim}
use Prim.Native.Nat.{ℕ, zero, suc, ◌+◌, ◌*◌, ◌/◌, ◌^◌, ◌≤◌, ◌<◌}
use native.Mathlib.Nat.{div-le_self, div-eq_of_lt-le, mod-lt, div-add-mod', mul-pos, mul-le-mul_right}
use native.Mathlib.Omega.{arith}
use borrow.Author.Tests.{ltb-true, ltb-false}
use lib.Dec.{ltb}
use lib.IntN.{ℤ, pos, negsuc, neg_ℤ, nat_abs, ◌+ℤ◌, ◌-ℤ◌, ◌*ℤ◌, neg_ℤ-neg_ℤ, neg_ℤ-+ℤ}
use lib.Signed.{quot_z}
use mir.Syntax.{w64}
use mir.Val.{SFits}
use Rattle.integers.specs.Integer.{plus, minus}
use Rattle.integers.proofs.Balance.{Decided, yes, no, test, sign, eq_z, abs_is, bal_add, bal_sub, bal_neg, bal_times, bal_scale}
use Rattle.integers.proofs.Balance.{size_add, size_sub}
use Rattle.integers.proofs.Machine.{fits_size, no_pos, quot_down}
use Rattle.integers.proofs.NumberLaws.{far_cases, far_sub, abs_neg, scale_neg, neg_both, no_plus}
use Rattle.speed.specs.declared.Quotient.{Quotient}
use Rattle.speed.specs.Rounding.{away_from, rounded, divided, Divides}

-- ---- the machine's quotient, of numbers of the size that the code allows

pub record Sized (n : ℤ) (t : ℕ) : Type 0 where
  pub small : nat_abs n < 2 ^ 61
  pub some : 0 < t
  pub few : t < 2 ^ 32

bal_away : (n : ℤ) (t : ℕ) → plus (away_from n t) + minus (away_from n t) ≡ t
unfolding away_from
bal_away (pos a) t = omega arith
bal_away (negsuc a) t = omega (arith, bal_neg (pos t))

-- the code's dividend
abbrev pub dividend : ℤ → ℕ → ℤ
dividend n t = (pos 2 *ℤ n) +ℤ away_from n t

pub quotient : (n : ℤ) (t : ℕ) → quot_z (dividend n t) (pos (2 * t)) ≡ rounded n t
unfolding away_from rounded
quotient (pos a) t = refl
quotient (negsuc a) t =
    let x = (pos 2 *ℤ negsuc a) +ℤ neg_ℤ (pos t) in
    let b = bal_neg (pos t) in
    let d = bal_times 2 (negsuc a) in
    let s = bal_add (pos 2 *ℤ negsuc a) (neg_ℤ (pos t)) in
    let q : plus x ≡ 0 = no_pos x (omega arith) in
    let e : minus x ≡ 2 * suc a + t = omega arith in
    quot_down x (2 * t) (omega arith) ∙ ap (λ (k : ℕ). neg_ℤ (pos (k / (2 * t)))) e

-- the size of what is rounded
size_rounded : (n : ℤ) (t : ℕ) → nat_abs (rounded n t) ≡ (2 * nat_abs n + t) / (2 * t)
unfolding rounded
size_rounded (pos a) t = refl
size_rounded (negsuc a) t = abs_neg (pos ((2 * suc a + t) / (2 * t)))

module _ {n : ℤ} {t : ℕ} (k : Sized n t) where
  pub fits_twice : SFits w64 (pos 2 *ℤ n)
  fits_twice = let b = bal_times 2 n in fits_size _ (omega (arith, abs_is n))

  pub fits_dividend : SFits w64 (dividend n t)
  fits_dividend = let b = bal_times 2 n in fits_size _ (omega (arith, abs_is n, bal_away n t, size_add (pos 2 *ℤ n) (away_from n t)))

  pub fits_divisor : SFits w64 (pos (2 * t))
  fits_divisor = fits_size _ (omega arith)

  pub fits_quotient : SFits w64 (quot_z (dividend n t) (pos (2 * t)))
  fits_quotient =
      rw (quotient n t)
      (fits_size _ (omega (arith, abs_is (rounded n t), size_rounded n t, div-le_self (2 * nat_abs n + t) (2 * t))))

-- ---- number and remainder: the quotient is what is asked for, and no other is, at or above zero first

-- x and what it leaves of n are n, and nothing else is left.
pub left_back : (x n : ℤ) → x +ℤ (n -ℤ x) ≡ n
left_back x n = eq_z (x +ℤ (n -ℤ x)) n (omega (arith, bal_add x (n -ℤ x), bal_sub n x))

left_only : (x r n : ℤ) → x +ℤ r ≡ n → r ≡ n -ℤ x
left_only x r n e = eq_z r (n -ℤ x) (omega (arith, bal_add x r, bal_sub n x, ap plus e, ap minus e))

-- So the number decides the quotient.
by_number : {n : ℤ} {t : ℕ} {q : Quotient} → Divides n t q → q.number ≡ rounded n t → q ≡ divided n t
unfolding divided
by_number {n} {t} {q} h e =
    let r = left_only (q.number *ℤ pos t) q.remainder n h.exact ∙ ap (λ (v : ℤ). n -ℤ (v *ℤ pos t)) e in
    λ i. record { number = e i; remainder = r i; divisor = h.over i }

-- A product above 0 is of two numbers above 0.
some_of : (b m : ℕ) → 0 < b * m → (0 < b) × (0 < m)
some_of zero m h = absurd (let none : ⊥ = omega arith in none)
some_of (suc b) zero h = absurd (let none : ⊥ = omega arith in none)
some_of (suc b) (suc m) h = (omega arith, omega arith)

module _ (a t : ℕ) (some : 0 < t) where
  abbrev q : ℕ
  q = (2 * a + t) / (2 * t)

  whole : (2 * (q * t) ≤ 2 * a + t) × (2 * a + t < 2 * (q * t) + 2 * t)
  whole = omega (arith, div-add-mod' (2 * a + t) (2 * t), mod-lt (2 * a + t) {m = 2 * t} (omega arith))

  abbrev r : ℤ
  r = pos a -ℤ (pos q *ℤ pos t)

  up_divides : Divides (pos a) t (divided (pos a) t)
  unfolding divided rounded
  up_divides =
      let b = bal_sub (pos a) (pos q *ℤ pos t) in
      let w = whole in
      let s = abs_is r in
      record {
        over = refl;
        exact = left_back (pos q *ℤ pos t) (pos a);
        small = ⊎_elim (λ e. omega arith) (λ e. omega arith) (sign r);
        half = λ h. ⊎_elim (λ e. absurd (let none : ⊥ = omega arith in none))
            (λ e. omega (arith, bal_times q r, mul-pos {m = q} {n = minus r} (some_of q t (omega arith)).0 (omega arith))) (sign r);
      }

  -- what divides it lies between these two
  up_sides : (b : ℕ) (x : ℤ) {d : ℕ} → Divides (pos a) t (record { number = pos b; remainder = x; divisor = d })
      → (2 * (b * t) ≤ 2 * a + t) × (2 * a + t < 2 * (b * t) + 2 * t)
  up_sides b x h =
      let c = bal_add (pos b *ℤ pos t) x in
      let e = ap plus h.exact in
      let f = ap minus h.exact in
      let s = abs_is x in
      let l = h.small in
      ⊎_elim (λ z. go z (omega arith) (test (ltb (2 * nat_abs x) t))) (λ z. omega arith) (sign x)
    where
      go : minus x ≡ 0 → a ≡ b * t + nat_abs x → Decided (ltb (2 * nat_abs x) t) →
          (2 * (b * t) ≤ 2 * a + t) × (2 * a + t < 2 * (b * t) + 2 * t)
      go z e (yes f) = omega (arith, e, ltb-true (2 * nat_abs x) t f)
      go z e (no f) =
          let o = h.half (omega (arith, h.small, ltb-false (2 * nat_abs x) t f)) in
          absurd (omega (arith, z, (some_of b (minus x) (omega (arith, o, bal_times b x))).1))

  up_only : (v x : ℤ) {d : ℕ} → Divides (pos a) t (record { number = v; remainder = x; divisor = d }) → v ≡ pos q
  up_only (pos b) x h =
      let s = up_sides b x h in
      ap pos (sym (div-eq_of_lt-le (2 * t) (omega (arith, s)) (omega (arith, s))))
  up_only (negsuc b) x h =
      let s = bal_scale (negsuc b) t in
      let c = bal_add (negsuc b *ℤ pos t) x in
      let e = ap plus h.exact in
      let f = ap minus h.exact in
      let k = abs_is x in
      let m = h.small in
      let l = mul-le-mul_right {m = 1} {n = suc b} t (omega arith) in
      absurd (omega arith)

-- the negative of what divides a number divides its negative
abbrev turned : Quotient → Quotient
turned q = record { number = neg_ℤ q.number; remainder = neg_ℤ q.remainder; divisor = q.divisor }

turns : {n : ℤ} {t : ℕ} {q : Quotient} → Divides n t q → Divides (neg_ℤ n) t (turned q)
turns {n} {t} {q} h = record {
  over = h.over;
  exact = rw (scale_neg q.number t, ← (neg_ℤ-+ℤ (q.number *ℤ pos t) q.remainder), h.exact);
  small = rw (abs_neg q.remainder) h.small;
  half = λ e. rw (neg_both q.number q.remainder) (h.half (rw (abs_neg q.remainder) at e));
}

-- The quotient is what is asked for: exact, small, and a half away from zero.
pub divides : (n : ℤ) (t : ℕ) → 0 < t → Divides n t (divided n t)
unfolding divided rounded
divides (pos a) t some = up_divides a t some
divides (negsuc a) t some = let h = turns (up_divides (suc a) t some) in subst (Divides (negsuc a) t) (by_number h refl) h

-- Nothing is divided by 0.
pub above : {n : ℤ} {t : ℕ} {q : Quotient} → Divides n t q → 0 < t
above {t = zero} {q} h =
    let z : q.remainder ≡ pos 0 = eq_z _ _ (omega (arith, abs_is q.remainder, h.small)) in
    let o = rw z at (h.half (omega (arith, h.small))) in
    absurd (let none : ⊥ = omega (arith, o, bal_scale q.number 0) in none)
above {t = suc d} h = omega arith

-- And no other number and remainder are.
pub divides_only : (n : ℤ) (t : ℕ) (q : Quotient) → Divides n t q → q ≡ divided n t
unfolding rounded
divides_only (pos a) t q h = by_number h (up_only a t (above h) q.number q.remainder h)
divides_only (negsuc a) t q h =
    let e = up_only (suc a) t (above h) (neg_ℤ q.number) (neg_ℤ q.remainder) (turns h) in
    by_number h (sym (neg_ℤ-neg_ℤ q.number) ∙ ap neg_ℤ e)

-- ---- what follows from any number and remainder that divide

module _ {n : ℤ} {t : ℕ} {q : Quotient} (h : Divides n t q) where
  -- Number times divisor lies at most half the divisor from n.
  pub near : 2 * nat_abs ((q.number *ℤ pos t) -ℤ n) ≤ t
  near =
      let x = q.number *ℤ pos t in
      let a = bal_add x q.remainder in
      let e = ap plus h.exact in
      let f = ap minus h.exact in
      let s = abs_is q.remainder in
      let l = h.small in
      ⊎_elim (λ c. omega (arith, c)) (λ c. omega (arith, c)) (far_cases x n)

-- At exactly half it lies farther from zero than n does, above zero first.
up_away : (b : ℕ) {n x : ℤ} {t d : ℕ} → Divides n t (record { number = pos b; remainder = x; divisor = d }) → 2 * nat_abs x ≡ t →
    nat_abs n < nat_abs (pos b *ℤ pos t)
up_away b {n} {x} {t} h e =
    let o = h.half e in
    let s = some_of b (minus x) (omega (arith, o, bal_times b x)) in
    let m = mul-le-mul_right {m = 1} {n = b} t s.0 in
    let p = bal_add (pos b *ℤ pos t) x in
    let f = ap plus h.exact in
    let g = ap minus h.exact in
    let k = abs_is n in
    let l = abs_is x in
    let y = no_plus x s.1 in
    ⊎_elim (λ z. omega (arith, z)) (λ z. absurd (let none : ⊥ = omega (arith, z) in none)) (sign n)

pub away : {n : ℤ} {t : ℕ} {q : Quotient} → Divides n t q → 2 * nat_abs q.remainder ≡ t → nat_abs n < nat_abs (q.number *ℤ pos t)
away {n} {t} {q} h e = go q.number h
  where
    go : (v : ℤ) → Divides n t (record { number = v; remainder = q.remainder; divisor = q.divisor }) → nat_abs n < nat_abs (v *ℤ pos t)
    go (pos b) k = up_away b k e
    go (negsuc b) k =
        omega (
          arith,
          abs_neg n,
          abs_neg (pos (suc b) *ℤ pos t),
          up_away (suc b) (turns k) (rw (abs_neg q.remainder) e),
        )

-- ---- what the code makes of it fits

module _ {n : ℤ} {t : ℕ} (k : Sized n t) where
  abbrev x : ℤ
  x = rounded n t *ℤ pos t

  product_near : 2 * nat_abs (x -ℤ n) ≤ t
  unfolding divided
  product_near = near (divides n t k.some)

  product_size : plus x + minus x < 2 ^ 62
  product_size =
      let a = abs_is n in
      ⊎_elim (λ e. omega (arith, e, far_sub x n, product_near)) (λ e. omega (arith, e, far_sub x n, product_near)) (sign x)

  pub fits_product : SFits w64 x
  fits_product = fits_size _ (omega (arith, product_size))

  -- What they differ by, either way round: the code has one of them, and a code with the other is then refused for what it answers and
  -- not for its size.
  pub room : (plus (n -ℤ x) + minus (n -ℤ x) < 2 ^ 63) × (plus (x -ℤ n) + minus (x -ℤ n) < 2 ^ 63)
  room = omega (arith, product_size, size_sub n x, size_sub x n, abs_is n)

  pub fits_remainder : SFits w64 (n -ℤ x)
  fits_remainder = fits_size _ room.0
