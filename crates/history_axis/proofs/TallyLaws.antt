-- The laws of a tally: position, RANGE and doubles with one entry more, and the sum while RANGE is clear.
use mathlib.Core.Path.{◌≡◌, refl, sym, ◌∙◌, ap}
use mathlib.Core.Bool.{Bool, true, false, cond, not, ◌&&◌, ◌||◌, true≢false, and-true, and-false, or-false, or_assoc}
use mathlib.Core.List.{List, [], ◌∷◌}
use Prim.Native.Nat.{ℕ, ◌+◌, ◌^◌, min}
use native.Mathlib.Omega.{arith}
use lib.IntN.{ℤ, pos, ◌+ℤ◌, +ℤ_idr, +ℤ_assoc}
use Rattle.position.specs.Position.{in_range, word_of, position_of}
use Rattle.position.proofs.PositionLaws.{position_word}
use Rattle.axis_decode.specs.Decode.{worth, is_e}
use Rattle.axis_count.specs.Count.{counted_word, counted_range, counted_doubles}
use Rattle.axis_decode.specs.declared.Move.{Move}
use Rattle.history_axis.specs.Entries.{number_of_e}
use Rattle.history_axis.specs.Tally.{Tally, onward, Place, homed_tally, sum, holds, walk, held_in, walked, ranged, doubled}
use Rattle.history_axis.proofs.CountLaws.{stepped_in_range, count_word, count_range}

-- ---- one entry more

pub walk_in_range : (z : ℤ) → in_range z ≡ true → (ms : List Move) → in_range (walk z ms) ≡ true
unfolding walk
walk_in_range z e [] = e
walk_in_range z e (m ∷ ms) = stepped_in_range (walk z ms) (walk_in_range z e ms) m

-- The tally after one entry more on an axis that is armed, or is not, at an edge that is met forward, or backward, or at none.
abbrev next_tally : Tally Place → Move → Bool → Bool → Bool → Tally Place
next_tally t m armed forward backward = cond (armed && (forward || backward)) (homed_tally backward (m ∷ [])) (onward (m ∷ []) t)

module _ (t : Tally Place) (e : in_range t.value.position ≡ true) (m : Move) where
  now_in_range : in_range (walked t) ≡ true
  now_in_range = walk_in_range t.value.position e t.moves

  -- The position after one entry more.
  counted_next : position_of (counted_word m (word_of (walked t))) ≡ walked (onward (m ∷ []) t)
  unfolding walk
  counted_next = rw (count_word (walked t) now_in_range m) (position_word _ (stepped_in_range (walked t) now_in_range m))

  counted_range_lem : counted_range m (word_of (walked t)) (ranged t) ≡ ranged (onward (m ∷ []) t)
  unfolding held_in
  counted_range_lem =
      count_range (walked t) now_in_range m (ranged t)
      ∙ or_assoc t.value.range (held_in t.value.position t.moves) (holds (walked t) m)

  -- The word, RANGE and INDEX after one entry more, on an axis that is armed (a), or is not, at an edge that is met forward (f), or
  -- backward (b), or at none.
  pub word_next : (f b a : Bool) → (f ≡ true → b ≡ false) →
      cond (f && (not b && a)) (2 ^ 62) (counted_word m (cond (b && a) (2 ^ 62) (word_of (walked t))))
      ≡ word_of (walked (next_tally t m a f b))
  unfolding walk word_of in_range
  word_next true true a one = absurd (true≢false (one refl))
  word_next true false true one = refl
  word_next true false false one = count_word (walked t) now_in_range m
  word_next false true true one = count_word (pos 0) refl m
  word_next false true false one = count_word (walked t) now_in_range m
  word_next false false true one = count_word (walked t) now_in_range m
  word_next false false false one = count_word (walked t) now_in_range m

  pub range_next : (f b a : Bool) → (f ≡ true → b ≡ false) →
      (counted_range m (cond (b && a) (2 ^ 62) (word_of (walked t))) (ranged t && not (b && a)) && not (f && (not b && a)))
      ≡ ranged (next_tally t m a f b)
  unfolding walk held_in word_of in_range
  range_next true true a one = absurd (true≢false (one refl))
  range_next true false true one = and-false (counted_range m (word_of (walked t)) (ranged t && true))
  range_next true false false one = rw (and-true, and-true) counted_range_lem
  range_next false true true one = rw (and-true, and-false (ranged t)) (count_range (pos 0) refl m false)
  range_next false true false one = rw (and-true, and-true) counted_range_lem
  range_next false false true one = rw (and-true, and-true) counted_range_lem
  range_next false false false one = rw (and-true, and-true) counted_range_lem

  pub index_next : (off : ℤ → Bool) (i h f b a : Bool) → (f ≡ true → b ≡ false) →
      ((i || (b && not a && h && off (position_of (word_of (walked t)))))
      || (f && not (not b && a) && (h || (b && a)) && off (position_of (counted_word m (cond (b && a) (2 ^ 62) (word_of (walked t)))))))
      ≡ (i || ((f || b) && not a && h && off (cond b (walked t) (walked (onward (m ∷ []) t)))))
  index_next off i h true true a one = absurd (true≢false (one refl))
  index_next off i h true false true one = or-false (i || false)
  index_next off i h true false false one = rw (or-false i, or-false h, counted_next)
  index_next off i h false true true one = or-false (i || false)
  index_next off i h false true false one = rw (or-false, position_word (walked t) now_in_range)
  index_next off i h false false a one = or-false (i || false)

-- The doubles after one entry more.
pub doubles_next : (t : Tally ℕ) (m : Move) → counted_doubles m (doubled t) ≡ doubled (onward (m ∷ []) t)
unfolding counted_doubles number_of_e
doubles_next t m = go (is_e m)
  where
    go : (b : Bool) → cond b (min 65535 (doubled t + 1)) (doubled t) ≡ min 65535 (t.value + (number_of_e t.moves + cond b 1 0))
    go true = omega arith
    go false = omega arith

-- ---- while RANGE is clear

neither : (a b : Bool) → (a || b) ≡ false → (a ≡ false) × (b ≡ false)
neither true b e = absurd (true≢false e)
neither false b e = (refl, e)

walk_sum : (z : ℤ) (ms : List Move) → held_in z ms ≡ false → walk z ms ≡ z +ℤ sum ms
unfolding walk held_in sum
walk_sum z [] e = sym (+ℤ_idr z)
walk_sum z (m ∷ ms) e =
    let n = neither (held_in z ms) (holds (walk z ms) m) e in
    rw n.1 (ap (λ (p : ℤ). p +ℤ worth m) (walk_sum z ms n.0) ∙ +ℤ_assoc z (sum ms) (worth m))

-- An entry that leaves RANGE clear found it clear, and counts.
pub one_clear : (t : Tally Place) (m : Move) → ranged (onward (m ∷ []) t) ≡ false →
    (ranged t ≡ false) × (walked (onward (m ∷ []) t) ≡ walked t +ℤ worth m)
unfolding walk held_in
one_clear t m e =
    let n = neither (ranged t) (holds (walked t) m)
    (or_assoc t.value.range (held_in t.value.position t.moves) (holds (walked t) m) ∙ e) in
    (n.0, rw n.1)

-- Where RANGE is clear no entry was held, and the position is the value given plus the sum of the entries since.
pub walked_sum : (t : Tally Place) → ranged t ≡ false → walked t ≡ t.value.position +ℤ sum t.moves
walked_sum t e = walk_sum t.value.position t.moves (neither t.value.range (held_in t.value.position t.moves) e).1
