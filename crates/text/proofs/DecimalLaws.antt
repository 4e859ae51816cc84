-- The laws of decimal digits: docs/RULES.md, "Trace program".
use Prim.Native.Nat.{ℕ, zero, suc, ◌+◌, ◌-◌, ◌*◌, ◌/◌, ◌%◌, ◌^◌, ◌≤◌, ◌<◌}
use native.Mathlib.Nat.{pow-succ'}
use native.Mathlib.Omega.{arith}
use mathlib.Core.Path.{◌≡◌, refl, sym, ap, ◌∙◌}
use mathlib.Core.List.{List, [], ◌∷◌, ◌++◌}
use lib.Dec.{ltb}
use lib.ListN.{length, get_or, length-append, get_or-append}
use borrow.Author.Tests.{lt-ltb, le-ltb, ltb-true, ltb-false}
use Rattle.integers.proofs.Balance.{Decided, yes, no, test}
use Rattle.text.specs.Text.{ZERO, digits_in, decimal, value_from}

-- A number below ten is one digit.
digit_one : (k n : ℕ) → n < 10 → digits_in (suc k) n ≡ (ZERO + n) ∷ []
unfolding digits_in
digit_one k n h = rw (lt-ltb n 10 h)

-- Any other is the digits of its tenth part, and its last digit.
digit_more : (k n : ℕ) → 10 ≤ n → digits_in (suc k) n ≡ digits_in k (n / 10) ++ ((ZERO + n % 10) ∷ [])
unfolding digits_in
digit_more k n h = rw (le-ltb n 10 h)

-- More room than is enough changes nothing.
digits_enough : (k j n : ℕ) → n < k → n < j → digits_in k n ≡ digits_in j n
digits_enough zero j n h l = absurd (omega arith)
digits_enough (suc k) zero n h l = absurd (omega arith)
digits_enough (suc k) (suc j) n h l = go (test (ltb n 10)) (digits_enough k j (n / 10))
  where
    go : Decided (ltb n 10) → (n / 10 < k → n / 10 < j → digits_in k (n / 10) ≡ digits_in j (n / 10)) →
        digits_in (suc k) n ≡ digits_in (suc j) n
    go (yes e) f = digit_one k n (ltb-true n 10 e) ∙ sym (digit_one j n (ltb-true n 10 e))
    go (no e) f =
        let m : 10 ≤ n = ltb-false n 10 e in
        digit_more k n m ∙ ap (λ (ds : List ℕ). ds ++ ((ZERO + n % 10) ∷ [])) (f (omega arith) (omega arith)) ∙ sym (digit_more j n m)

-- The digits of a number below ten.
pub decimal_one : (n : ℕ) → n < 10 → decimal n ≡ (ZERO + n) ∷ []
unfolding decimal
decimal_one n h = digit_one n n h

-- The digits of any other.
pub decimal_more : (n : ℕ) → 10 ≤ n → decimal n ≡ decimal (n / 10) ++ ((ZERO + n % 10) ∷ [])
unfolding decimal
decimal_more n h =
    digit_more n n h
    ∙ ap (λ (ds : List ℕ). ds ++ ((ZERO + n % 10) ∷ [])) (digits_enough n (suc (n / 10)) (n / 10) (omega arith) (omega arith))

-- What holds below ten, and of a number where it holds of its tenth part, holds of every number.
module _ (P : ℕ → Type 0) (one : (n : ℕ) → n < 10 → P n) (rest : (n : ℕ) → 10 ≤ n → P (n / 10) → P n) where
  by_digits_below : (k n : ℕ) → n < k → P n
  by_digits_below zero n h = absurd (omega arith)
  by_digits_below (suc k) n h = go (test (ltb n 10)) (by_digits_below k (n / 10))
    where
      go : Decided (ltb n 10) → (n / 10 < k → P (n / 10)) → P n
      go (yes e) f = one n (ltb-true n 10 e)
      go (no e) f = let l : 10 ≤ n = ltb-false n 10 e in rest n l (f (omega arith))

  pub by_digits : (n : ℕ) → P n
  by_digits n = by_digits_below (suc n) n (omega arith)

-- A number has a digit.
pub decimal_some : (n : ℕ) → 0 < length (decimal n)
decimal_some = by_digits (λ n. 0 < length (decimal n))
    (λ n h. rw (decimal_one n h) (omega arith))
    (λ n h f. rw (decimal_more n h) (simp length-append (omega arith)))

-- A number below 10 ^ k takes at most k digits, k above 0.
pub decimal_length : (k n : ℕ) → n < 10 ^ suc k → length (decimal n) ≤ suc k
decimal_length zero n h = rw (decimal_one n h) (omega arith)
decimal_length (suc k) n h = go (test (ltb n 10)) (decimal_length k (n / 10))
  where
    go : Decided (ltb n 10) → (n / 10 < 10 ^ suc k → length (decimal (n / 10)) ≤ suc k) → length (decimal n) ≤ suc (suc k)
    go (yes e) f = rw (decimal_one n (ltb-true n 10 e)) (omega arith)
    go (no e) f =
        let l : 10 ≤ n = ltb-false n 10 e in
        let s : n / 10 < 10 ^ suc k = omega (arith, pow-succ' 10 (suc k)) in
        rw (decimal_more n l) (simp length-append (omega (arith, f s)))

-- Digits behind a number, and one more.
value_snoc : (v : ℕ) (ds : List ℕ) (d : ℕ) → value_from v (ds ++ (d ∷ [])) ≡ value_from v ds * 10 + (d - ZERO)
unfolding value_from
value_snoc v [] d = refl
value_snoc v (x ∷ ds) d = value_snoc (v * 10 + (x - ZERO)) ds d

-- The digits of a number say that number.
pub decimal_value : (n : ℕ) → value_from 0 (decimal n) ≡ n
unfolding value_from
decimal_value = by_digits (λ n. value_from 0 (decimal n) ≡ n)
    (λ n h. rw (decimal_one n h) (omega arith))
    (λ n h e. rw (decimal_more n h, value_snoc 0 (decimal (n / 10)) (ZERO + n % 10), e) (omega arith))

-- No digits but those of 0 begin with a 0.
pub decimal_lead : (n : ℕ) → 0 < n → ZERO < get_or (decimal n) 0 0
decimal_lead = by_digits (λ n. 0 < n → ZERO < get_or (decimal n) 0 0)
    (λ n h some. rw (decimal_one n h) (omega arith))
    (λ n h f some.
    rw (decimal_more n h, get_or-append (decimal (n / 10)) ((ZERO + n % 10) ∷ []) 0 0 (decimal_some (n / 10))) (f (omega arith)))
