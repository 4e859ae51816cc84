-- The laws of a narrow counter through time: its position is the shaft's, once over the width and any number of readings.
use Rattle.std.specs.Prelude.{Ok}
use Prim.Native.Nat.{ℕ, ◌*◌, ◌^◌, ◌<◌}
use mathlib.Core.Path.{◌≡◌, sym, ap, ◌∙◌}
use mathlib.Core.Bool.{true}
use mathlib.Core.List.{List, ◌∷◌}
use lib.IntN.{ℤ, nat_abs, ◌-ℤ◌}
use borrow.Author.Tests.{le-leb}
use Rattle.position.specs.Position.{in_range, word_of, position_of}
use Rattle.position.proofs.PositionLaws.{position_in_range, position_word, word_position}
use Rattle.reckon.specs.Widening.{good_width}
use Rattle.reckon.proofs.NearestLaws.{true_position}
use Rattle.axis.specs.Row.{axis_of, fresh_at}
use Rattle.axis_sound.specs.Sound.{status_of, CounterAxis, counter_of}
use Rattle.axis.specs.declared.row.Axis.{Axis}
use Rattle.axis.specs.declared.row.Row.{Row}
use Rattle.axis_sound.specs.declared.Status.TheVariants.{Counter}
use Rattle.axis_sound.proofs.SoundLaws.{counter_gives}
use Rattle.row_counter.specs.Reading.{read_axis, reading_of, reading_row, stored_row, read_row}
use Rattle.row_calls.specs.Calls.{left_by}
use Rattle.row_counter.specs.Counter.{newest, low_bits, row_read, UnderHalf, still, polled, CounterAt}
use Rattle.row_calls.proofs.ChangeLaws.{counter_holds}
use Rattle.row_counter.proofs.ReadingLaws.{read_at, read_kept}

-- A counter row is at its own position.
at_start : (r : Row) → status_of r ≡ Counter → CounterAt (axis_of r).config.width (position_of (axis_of r).word) r
at_start r e =
    let k = counter_gives r e in
    let same = sym (word_position (axis_of r).word k.word) in
    record { status = e; axis = k.rest ∙ ap (fresh_at (counter_of (axis_of r).config.width)) same }

-- ---- one reading, from a counter row q of w bits at the position W

module _ (w : ℕ) (W : ℤ) (q : Row) (at : CounterAt w W q) (okW : in_range W ≡ true) (p : ℤ) (ok : in_range p ≡ true)
    (near : 2 * nat_abs (p -ℤ W) < 2 ^ w) where
  counter : CounterAxis (axis_of q)
  counter = counter_gives q at.status

  wide : (axis_of q).config.width ≡ w
  wide = ap (λ (a : Axis). a.config.width) at.axis

  good : good_width w ≡ true
  good = rw (le-leb 2 w (rw wide at counter.narrow), le-leb w 32 (rw wide at counter.wide))

  -- The reading answers the true position.
  one_answer : reading_row (low_bits w p) q ≡ Ok p
  unfolding reading_row
  one_answer =
      rw at.status
      (ap (reading_of (low_bits w p)) at.axis
      ∙ rw (position_word W okW) (true_position w W p good okW ok near))

  -- The row is then at it.
  one_row : CounterAt w p (left_by q (read_row (low_bits w p) q))
  unfolding read_row stored_row
  one_row =
      let h = counter_holds (read_axis p (axis_of q)) (read_kept (axis_of q) p ok counter) in
      rw one_answer
      (record { status = h.status; axis = h.axis ∙ read_at (axis_of q) p counter ∙ ap (λ (v : ℕ). fresh_at (counter_of v) (word_of p)) wide })

-- ---- any number of readings, from a counter row r

module _ (r : Row) (counter : status_of r ≡ Counter) where
  -- Its width.
  abbrev bits : ℕ
  bits = (axis_of r).config.width

  -- Its position, which is the shaft's.
  abbrev start : ℤ
  start = position_of (axis_of r).word

  newest_in_range : {ps : List ℤ} → UnderHalf bits start ps → in_range (newest start ps) ≡ true
  newest_in_range still = position_in_range (axis_of r).word (counter_gives r counter).word
  newest_in_range (polled p ps ok near g) = ok

  -- After readings of a shaft that moves gently, the row is a counter as setup leaves it, at the shaft's position.
  pub counter_follows : {ps : List ℤ} → UnderHalf bits start ps → CounterAt bits (newest start ps) (row_read bits r ps)
  unfolding row_read
  counter_follows still = at_start r counter
  counter_follows (polled p ps ok near g) =
      one_row bits (newest start ps) (row_read bits r ps) (counter_follows g) (newest_in_range g) p ok near

  -- So its position is the true one after each reading.
  pub counter_position : {ps : List ℤ} → UnderHalf bits start ps → position_of (axis_of (row_read bits r ps)).word ≡ newest start ps
  counter_position {ps} g =
      ap (λ (a : Axis). position_of a.word) (counter_follows g).axis ∙ position_word (newest start ps) (newest_in_range g)

  -- And each reading is accepted and answers the true position.
  pub counter_answers : {p : ℤ} {ps : List ℤ} → UnderHalf bits start (p ∷ ps) → reading_row (low_bits bits p) (row_read bits r ps) ≡ Ok p
  counter_answers (polled p ps ok near g) =
      one_answer bits (newest start ps) (row_read bits r ps) (counter_follows g) (newest_in_range g) p ok near
