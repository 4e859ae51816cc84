-- Widening by the word that holds a position, and when each refusal comes.
use Rattle.std.specs.Prelude.{Err}
use mathlib.Core.Path.{◌≡◌, refl, sym, ap, ◌∙◌}
use mathlib.Core.Bool.{true, false, ◌&&◌, and-eq-true_iff}
use Prim.Native.Nat.{ℕ, ◌+◌, ◌*◌, ◌-◌, ◌/◌, ◌^◌, ◌≤◌, ◌<◌}
use native.Mathlib.Nat.{mod-lt, div-add-mod'}
use native.Mathlib.Omega.{arith}
use borrow.Author.Tests.{eq-eqb, ne_eqb, lt-ltb, le-ltb, ltb-true, leb-true, leb-false, eqb-true, eqb-false}
use lib.Dec.{ltb, leb, eqb}
use lib.Pow.{pow_pos, pow-add}
use lib.IntN.{ℤ, pos, ◌+ℤ◌, ◌-ℤ◌}
use Rattle.integers.specs.Integer.{mod_z}
use Rattle.integers.proofs.Balance.{Decided, yes, no, test, eq_z, bal_add, bal_sub, mod_turns}
use Rattle.integers.proofs.NumberLaws.{between}
use Rattle.position.specs.Position.{in_range, is_word, position_of, word_of}
use Rattle.position.proofs.PositionLaws.{range_no, position_in_range, bal_position, position_word}
use Rattle.refusal.specs.declared.Refusal.TheVariants.{Value, Half, Range}
use Rattle.reckon.specs.Widening.{good_width, good_reading, or_range, nearest_to, widened, ahead_of}

-- ---- what the three tests of a good reading say

pub record Good (w : ℕ) (W : ℤ) (r : ℕ) : Type 0 where
  pub low : 2 ≤ w
  pub high : w ≤ 32
  pub ok : in_range W ≡ true
  pub small : r < 2 ^ w

pub good_is : (w : ℕ) (W : ℤ) (r : ℕ) → good_reading w W r ≡ true → Good w W r
unfolding good_reading
good_is w W r h =
    let a = (and-eq-true_iff (good_width w && in_range W) (ltb r (2 ^ w))).0 h in
    let b = (and-eq-true_iff (good_width w) (in_range W)).0 a.0 in
    let c = between 2 32 w b.0 in
    record { low = c.0; high = c.1; ok = b.1; small = ltb-true r (2 ^ w) a.1 }

pub good_from : (w : ℕ) (W : ℤ) (r : ℕ) → good_width w ≡ true → in_range W ≡ true → r < 2 ^ w → good_reading w W r ≡ true
unfolding good_reading
good_from w W r h k l = rw (h, k, lt-ltb r (2 ^ w) l)

-- ---- the refusal VALUE, test by test

pub bad_place : (w : ℕ) (W : ℤ) (r : ℕ) → (good_width w && in_range W) ≡ false → Err Value ≡ widened w W r
unfolding widened good_reading
bad_place w W r h = rw h

pub bad_reading : (w : ℕ) (W : ℤ) (r : ℕ) → good_width w ≡ true → in_range W ≡ true → 2 ^ w ≤ r → Err Value ≡ widened w W r
unfolding widened good_reading
bad_reading w W r h k l = rw (h, k, le-ltb r (2 ^ w) l)

pub accepted : (w : ℕ) (W : ℤ) (r : ℕ) → good_reading w W r ≡ true → nearest_to (2 ^ w) W (mod_z (pos r -ℤ W) (2 ^ w)) ≡ widened w W r
unfolding widened
accepted w W r h = rw h

-- ---- by the word: a position's word is 2 ^ 62 more, a whole number of turns

pub ahead_small : (turn word r : ℕ) → 0 < turn → ahead_of turn word r < turn
ahead_small turn word r p = mod-lt _ p

middle : (w : ℕ) → w ≤ 32 → 2 ^ (62 - w) * 2 ^ w ≡ 2 ^ 62
middle w h = let k : (62 - w) + w ≡ 62 = omega arith in sym (pow-add 2 (62 - w) w) ∙ ap (λ (k : ℕ). 2 ^ k) k

pub ahead_is : (w b r : ℕ) → w ≤ 32 → mod_z (pos r -ℤ position_of b) (2 ^ w) ≡ ahead_of (2 ^ w) b r
ahead_is w b r h =
    mod_turns (pow_pos w)
    (record {
      up = 1 + b / 2 ^ w;
      down = 2 ^ (62 - w);
      is = omega (arith, bal_sub (pos r) (position_of b), bal_position b, middle w h, div-add-mod' b (2 ^ w), mod-lt b (pow_pos w));
    })

-- ---- what `nearest_to` gives at a distance ahead

module _ (turn : ℕ) (W p : ℤ) (d : ℕ) where
  pub below_half : 2 * d < turn → W +ℤ pos d ≡ p → nearest_to turn W d ≡ or_range p
  unfolding nearest_to
  below_half h e = rw (lt-ltb (2 * d) turn h, e)

  pub above_half : turn < 2 * d → (W +ℤ pos d) -ℤ pos turn ≡ p → nearest_to turn W d ≡ or_range p
  unfolding nearest_to
  above_half h e = rw (le-ltb (2 * d) turn (omega arith), ne_eqb (2 * d) turn (λ q. omega arith), e)

pub at_half : (turn : ℕ) (W : ℤ) (d : ℕ) → 2 * d ≡ turn → nearest_to turn W d ≡ Err Half
unfolding nearest_to
at_half turn W d h = rw (le-ltb (2 * d) turn (omega arith), eq-eqb (2 * d) turn h)

-- the code's ways out below and above half a turn, from the word b of the old position
module _ (turn b d : ℕ) where
  abbrev W : ℤ
  W = position_of b

  pub when_below : 2 * d < turn → nearest_to turn (position_of b) d ≡ or_range (position_of (b + d))
  when_below h = below_half turn W _ d h (eq_z _ _ (omega (arith, bal_add W (pos d), bal_position b, bal_position (b + d))))

  module _ (h : turn ≤ 2 * d) (k : 2 * d ≡ turn → ⊥) where
    over : turn < 2 * d
    over = go (test (eqb (2 * d) turn))
      where
        go : Decided (eqb (2 * d) turn) → turn < 2 * d
        go (yes e) = absurd (k (eqb-true (2 * d) turn e))
        go (no e) = let n = eqb-false (2 * d) turn e in omega arith

    pub when_outside : b + d < turn → turn ≤ 2 ^ 32 → nearest_to turn (position_of b) d ≡ Err Range
    unfolding or_range
    when_outside l m =
        above_half turn W _ d over refl
        ∙ rw (range_no ((W +ℤ pos d) -ℤ pos turn) (omega (arith, bal_add W (pos d), bal_sub (W +ℤ pos d) (pos turn), bal_position b)))

    pub when_above : turn ≤ b + d → nearest_to turn (position_of b) d ≡ or_range (position_of (b + d - turn))
    when_above l =
        above_half turn W _ d over
        (eq_z _ _ (omega (arith, bal_position (b + d - turn), bal_add W (pos d), bal_sub (W +ℤ pos d) (pos turn), bal_position b)))

-- ---- a word, as a position or RANGE

-- a word holds a position exactly where that is in the range
pub word_range : (b : ℕ) → in_range (position_of b) ≡ is_word b
word_range b = go (test (leb 1 b)) (test (leb b (2 ^ 63 - 1)))
  where
    go : Decided (leb 1 b) → Decided (leb b (2 ^ 63 - 1)) → in_range (position_of b) ≡ is_word b
    go (no e) t = rw e (range_no (position_of b) (omega (arith, leb-false 1 b e, bal_position b)))
    go (yes e) (no f) = rw (e, f) (range_no (position_of b) (omega (arith, leb-false b (2 ^ 63 - 1) f, bal_position b)))
    go (yes e) (yes f) = rw (e, f)
        (position_in_range b (record { above = omega (arith, leb-true 1 b e); below = omega (arith, leb-true b (2 ^ 63 - 1) f) }))

-- the whole call, by the word
pub by_word : (w : ℕ) (W : ℤ) (r : ℕ) → good_width w ≡ true → in_range W ≡ true → r < 2 ^ w →
    nearest_to (2 ^ w) (position_of (word_of W)) (ahead_of (2 ^ w) (word_of W) r) ≡ widened w W r
by_word w W r h k l =
    let g = good_from w W r h k l in
    rw (← (ahead_is w (word_of W) r (good_is w W r g).high), position_word W k) (accepted w W r g)
