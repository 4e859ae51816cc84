-- The laws of positions and their words.
use mathlib.Core.Path.{◌≡◌, refl, sym}
use mathlib.Core.Bool.{Bool, true, false, cond, ◌&&◌, and-eq-true_iff}
use mathlib.Core.Logic.{⊎_elim}
use Prim.Native.Nat.{ℕ, suc, ◌+◌, ◌-◌, ◌^◌, ◌≤◌, ◌<◌}
use native.Mathlib.Omega.{arith}
use borrow.Author.Tests.{lt-ltb, le-ltb, le-leb, ltb-true, ltb-false, leb-true}
use lib.Dec.{leb, ltb, lit<}
use lib.IntN.{ℤ, pos, negsuc, nat_abs}
use Rattle.std.specs.Ordering.{int_cmp, is_le, is_lt}
use Rattle.std.specs.declared.cmp.Ordering.TheVariants.{Less, Equal, Greater}
use Rattle.integers.specs.Integer.{plus, minus}
use Rattle.integers.proofs.Balance.{abs_is, eq_z, bal_sub, sign, Decided, yes, no, test}
use Rattle.position.specs.Position.{in_range, is_word, Word, word_of, position_of}

-- ---- the range, by the two sides of a number

pub range_yes : (p : ℤ) → plus p + minus p < 2 ^ 62 → in_range p ≡ true
unfolding in_range
range_yes p h = lt-ltb (nat_abs p) (2 ^ 62) (omega (arith, abs_is p))

pub range_no : (p : ℤ) → 2 ^ 62 ≤ plus p + minus p → in_range p ≡ false
unfolding in_range
range_no p h = le-ltb (nat_abs p) (2 ^ 62) (omega (arith, abs_is p))

pub range_is : (p : ℤ) → in_range p ≡ true → plus p + minus p < 2 ^ 62
unfolding in_range
range_is p h = omega (arith, abs_is p, ltb-true (nat_abs p) (2 ^ 62) h)

-- the test of the code: the least position or above, and below the first number past the last one
pub within : (p : ℤ) → (is_le (int_cmp (negsuc (2 ^ 62 - 2)) p) && is_lt (int_cmp p (pos (2 ^ 62)))) ≡ in_range p
unfolding in_range
within (pos a) = go (ltb a (2 ^ 62)) (ltb (2 ^ 62) a)
  where
    go : (b c : Bool) → is_lt (cond b Less (cond c Greater Equal)) ≡ b
    go true c = refl
    go false true = refl
    go false false = refl
within (negsuc a) = go (test (ltb a (2 ^ 62 - 2))) (test (ltb (2 ^ 62 - 2) a))
  where
    go : Decided (ltb a (2 ^ 62 - 2)) → Decided (ltb (2 ^ 62 - 2) a) → (is_le (int_cmp (negsuc (2 ^ 62 - 2)) (negsuc a)) && true) ≡ ltb (suc a) (2 ^ 62)
    go (yes e) d = rw e (sym (lt-ltb (suc a) (2 ^ 62) (omega (arith, ltb-true))))
    go (no e) (yes f) = rw (e, f) (sym (le-ltb (suc a) (2 ^ 62) (omega (arith, ltb-true))))
    go (no e) (no f) = rw (e, f) (sym (lt-ltb (suc a) (2 ^ 62) (omega (arith, ltb-false))))

-- ---- a word and its position

-- the balance of a word's position
pub bal_position : (w : ℕ) → plus (position_of w) + 2 ^ 62 ≡ w + minus (position_of w)
unfolding position_of
bal_position w = omega (arith, bal_sub (pos w) (pos (2 ^ 62)))

-- the balance of a position's word
pub bal_word : (p : ℤ) → in_range p ≡ true → word_of p + minus p ≡ plus p + 2 ^ 62
unfolding word_of
bal_word (pos n) h = omega arith
bal_word (negsuc n) h = omega (arith, range_is (negsuc n) h)

-- a word holds a position exactly where it passes the test
pub word_gives : (w : ℕ) → is_word w ≡ true → Word w
word_gives w e =
    let h = (and-eq-true_iff (leb 1 w) (leb w (2 ^ 63 - 1))).0 e in
    record { above = leb-true 1 w h.0; below = omega (arith, leb-true w (2 ^ 63 - 1) h.1) }

pub word_passes : (w : ℕ) → Word w → is_word w ≡ true
word_passes w h = rw (le-leb 1 w h.above, le-leb w (2 ^ 63 - 1) (omega arith))

-- the word of position 0 holds one, as does that of any position
pub origin_holds : Word (2 ^ 62)
origin_holds = record { above = lit< tt; below = lit< tt }

pub word_holds : (p : ℤ) → in_range p ≡ true → Word (word_of p)
word_holds p h =
    record {
      above = omega (arith, bal_word p h, range_is p h);
      below = ⊎_elim (λ e. omega (arith, e, bal_word p h, range_is p h)) (λ e. omega (arith, e, bal_word p h, range_is p h)) (sign p);
    }

pub position_small : (w : ℕ) → Word w → plus (position_of w) + minus (position_of w) < 2 ^ 62
position_small w h = ⊎_elim (λ e. omega (arith, e, bal_position w)) (λ e. omega (arith, e, bal_position w)) (sign (position_of w))

pub position_in_range : (w : ℕ) → Word w → in_range (position_of w) ≡ true
position_in_range w h = range_yes (position_of w) (position_small w h)

-- The word of a position holds that position.
pub position_word : (p : ℤ) → in_range p ≡ true → position_of (word_of p) ≡ p
position_word p h = eq_z _ _ (omega (arith, bal_position (word_of p), bal_word p h))

-- The position of a word has that word.
pub word_position : (w : ℕ) → Word w → word_of (position_of w) ≡ w
word_position w h = omega (arith, bal_position w, bal_word (position_of w) (position_in_range w h))
