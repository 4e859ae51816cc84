-- The laws of the count: one entry at a position in the range.
use mathlib.Core.Path.{◌≡◌, refl, sym, ◌∙◌, ap}
use mathlib.Core.Bool.{Bool, true, false, cond, not, ◌||◌, or-false, or-true}
use lib.IntN.{ℤ, ◌+ℤ◌}
use Rattle.position.specs.Position.{in_range, word_of, position_of}
use Rattle.position.proofs.PositionLaws.{word_holds, position_word, word_position}
use Rattle.axis_decode.specs.Decode.{worth}
use Rattle.axis_count.specs.Count.{counted_word, counted_range}
use Rattle.axis_decode.specs.declared.Move.{Move}
use Rattle.axis_count.proofs.CountLaws.{count_keeps, moves, holds as held}
use Rattle.history_axis.specs.Tally.{holds}

module _ (p : ℤ) (e : in_range p ≡ true) (m : Move) where
  -- The position after an entry is in the range.
  pub stepped_in_range : in_range (cond (holds p m) p (p +ℤ worth m)) ≡ true
  unfolding holds
  stepped_in_range = go (in_range (p +ℤ worth m)) refl
    where
      go : (b : Bool) → in_range (p +ℤ worth m) ≡ b → in_range (cond (not b) p (p +ℤ worth m)) ≡ true
      go true f = f
      go false f = e

  counts : (r : Bool) → (counted_word m (word_of p) ≡ word_of (cond (holds p m) p (p +ℤ worth m)))
      × (counted_range m (word_of p) r ≡ (r || holds p m))
  unfolding holds
  counts r = go (in_range (p +ℤ worth m)) refl
    where
      back : position_of (word_of p) ≡ p
      back = position_word p e

      go : (b : Bool) → in_range (p +ℤ worth m) ≡ b →
          (counted_word m (word_of p) ≡ word_of (cond (not b) p (p +ℤ worth m))) × (counted_range m (word_of p) r ≡ (r || not b))
      go true f =
          let k = moves m (word_of p) r (rw back f) in
          let same = word_position (counted_word m (word_of p)) (count_keeps m (word_of p) (word_holds p e)) in
          (sym same ∙ ap word_of (k.0 ∙ ap (λ (z : ℤ). z +ℤ worth m) back), k.1 ∙ sym (or-false r))
      go false f = let k = held m (word_of p) r (word_holds p e) (rw back f) in (k.0, k.1 ∙ sym (or-true r))

  -- The word after an entry is that of the position, which moves unless the entry is held.
  pub count_word : counted_word m (word_of p) ≡ word_of (cond (holds p m) p (p +ℤ worth m))
  count_word = (counts false).0

  -- RANGE after an entry is set where it was, or where the entry is held.
  pub count_range : (r : Bool) → counted_range m (word_of p) r ≡ (r || holds p m)
  count_range r = (counts r).1
