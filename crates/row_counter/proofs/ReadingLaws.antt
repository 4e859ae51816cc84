-- The laws of a reading: its reasons, what it answers on a counter, and the row that it leaves.
use Rattle.std.specs.Prelude.{Result, Ok, Err}
use Prim.Native.Nat.{ℕ}
use mathlib.Core.Path.{◌≡◌, refl, sym, ap, ◌∙◌}
use mathlib.Core.Logic.{inl, inr, ⊎_elim}
use mathlib.Core.Bool.{true}
use lib.Dec.{lit<}
use lib.IntN.{ℤ}
use Rattle.position.specs.Position.{in_range, word_of, position_of}
use Rattle.position.proofs.PositionLaws.{word_holds}
use Rattle.refusal.specs.declared.Refusal.TheVariants.{Kind as KIND}
use Rattle.reckon.specs.Reckoned.{refusal_in}
use Rattle.reckon.specs.Widening.{widened}
use Rattle.reckon.specs.Nearest.{Verdict, value, half, range, at}
use Rattle.reckon.proofs.NearestLaws.{verdict, nearest}
use Rattle.reckon.proofs.ReckonedLaws.{refused_not}
use Rattle.axis.specs.Row.{axis_of, fresh_at}
use Rattle.axis.specs.declared.row.Axis.{Axis}
use Rattle.axis.specs.declared.row.Row.{Row}
use Rattle.axis_sound.specs.Sound.{status_of, CounterAxis, counter_of}
use Rattle.axis_sound.specs.declared.Status.TheVariants.{Sampled, Counter}
use Rattle.axis_sound.proofs.SoundLaws.{counter_gives}
use Rattle.row_calls.specs.Change.{changed, Holds}
use Rattle.row_calls.specs.Calls.{axis_counting}
use Rattle.row_calls.specs.Reasons.{StatusReasons}
use Rattle.row_calls.proofs.StatusLaws.{live}
use Rattle.row_calls.proofs.InUseLaws.{counting_goes}
use Rattle.row_calls.proofs.ChangeLaws.{counter_moved, counter_holds, to_one, kept_not}
use Rattle.row_calls.proofs.ReasonLaws.{Past, counters_only}
use Rattle.row_counter.specs.Reading.{read_axis, reading_of, reading_row, stored_row, read_row}
use Rattle.refusal.specs.declared.Refusal.{Refusal}

-- ---- reasons, before all else: an answer with VALUE before KIND is refused here

pub reading_past : (w : ℕ) (W : ℤ) (x : ℕ) → Past (refusal_in (widened w W x))
unfolding Past
reading_past w W x = go (verdict w W x)
  where
    go : Verdict w W x (widened w W x) → Past (refusal_in (widened w W x))
    go (value g e) = rw e (inr (lit< tt))
    go (half g p b h e) = rw e (inr (lit< tt))
    go (range g p b l i e) = rw e (inr (lit< tt))
    go (at g p b l i e) = rw e (inl refl)

-- A reading takes counters.
pub reading_reasons : (x : ℕ) (r : Row) → StatusReasons (refusal_in (reading_row x r)) (status_of r) (status_of r ≡ Sampled)
unfolding reading_row
reading_reasons x r =
    let a = axis_of r in
    counters_only refusal_in Err (λ e. refl) (reading_of x a) (reading_past a.config.width (position_of a.word) x) (status_of r)

-- On a counter a reading is widened from the counter's width and position, with the refusals of that call.
pub reading_is : (x : ℕ) (r : Row) → status_of r ≡ Counter →
    reading_row x r ≡ widened (axis_of r).config.width (position_of (axis_of r).word) x
unfolding reading_row
reading_is x r e = rw e

-- What is widened from the axis of a counter is the row's answer.
pub counted_reading : (x : ℕ) (r : Row) {a : Axis} {n : Result ℤ Refusal} → axis_counting r ≡ Ok a → n ≡ reading_of x a → reading_row x r ≡ n
unfolding reading_row
counted_reading x r h e = sym (e ∙ counting_goes Err (reading_of x) (Err KIND) r h)

-- ---- a reading that is accepted

-- A reading that is accepted was one of a counter row.
pub read_counter : (x : ℕ) (r : Row) (p : ℤ) → reading_row x r ≡ Ok p → (status_of r ≡ Counter) × (reading_of x (axis_of r) ≡ Ok p)
unfolding reading_row
read_counter x r p e =
    ⊎_elim
    (λ h. absurd (refused_not p KIND h.1))
    (λ h. h)
    (live Err (Err KIND) (reading_of x (axis_of r)) (Ok p) (refused_not p) (status_of r) e)

-- A position that was read is in the range.
pub read_in_range : (x : ℕ) (r : Row) (p : ℤ) → reading_row x r ≡ Ok p → in_range p ≡ true
read_in_range x r p e =
    let a = axis_of r in
    (nearest a.config.width (position_of a.word) p x (read_counter x r p e).1).0

-- What a reading makes of a counter is the counter at the position read.
pub read_at : (x : Axis) (p : ℤ) → CounterAxis x → read_axis p x ≡ fresh_at (counter_of x.config.width) (word_of p)
unfolding changed
read_at x p k = ap (read_axis p) k.rest

-- A reading within the range keeps a counter.
pub read_kept : (x : Axis) (p : ℤ) → in_range p ≡ true → CounterAxis x → CounterAxis (read_axis p x)
read_kept x p i k = counter_moved x (word_of p) (word_holds p i) k (read_axis p x) (read_at x p k)

-- A reading that is accepted stores the position that it answers, and leaves a counter row a counter.
pub read_keeps : (x : ℕ) (r q : Row) → read_row x r ≡ Ok q →
    (p : ℤ) × (reading_row x r ≡ Ok p) × Holds q (status_of r) (read_axis p (axis_of r))
unfolding read_row stored_row
read_keeps x r q e = go (reading_row x r) refl e
  where
    go : (n : Result ℤ Refusal) → reading_row x r ≡ n → stored_row r n ≡ Ok q →
        (p : ℤ) × (reading_row x r ≡ Ok p) × Holds q (status_of r) (read_axis p (axis_of r))
    go (Ok p) h k =
        let c = (read_counter x r p h).0 in
        (p, h, rw c (to_one k (counter_holds (read_axis p (axis_of r)) (read_kept (axis_of r) p (read_in_range x r p h) (counter_gives r c)))))
    go (Err f) h k = absurd (kept_not q f k)
