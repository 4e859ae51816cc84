-- The laws of a sample on a row: docs/RULES.md, "A port sample".
use Prim.Native.Nat.{ℕ}
use native.Mathlib.Omega.{arith}
use mathlib.Core.Path.{◌≡◌, refl, sym, ap, ◌∙◌}
use mathlib.Core.Bool.{true, false, true≢false}
use lib.Dec.{eqb}
use Rattle.fields.specs.Field.{field_of}
use Rattle.axis.specs.declared.row.Row.{Row}
use Rattle.axis_sound.specs.declared.Status.{Status}
use Rattle.axis_sound.specs.declared.Status.TheVariants.{Empty, Sampled, Counter, Broken}
use Rattle.axis.specs.Row.{axis_of, Words}
use Rattle.axis_sound.specs.Sound.{is_sampled, status_of, passes, SampledAxis}
use Rattle.axis_open.specs.Open.{broken_by}
use Rattle.axis.proofs.RowLaws.{comes_back, held_words}
use Rattle.axis_sound.proofs.SoundLaws.{status_exactly, sampled_gives, sampled_from_lem, sampled_held}
use Rattle.axis_filter.specs.Lines.{raw_of}
use Rattle.axis_sample.specs.Step.{step_axis}
use Rattle.row_sample.specs.Sample.{packed, kept, step_by, step_row}
use Rattle.axis_filter.specs.declared.Raw.{Raw}
use Rattle.row_sample.specs.declared.SteppedRow.{SteppedRow}
use Rattle.axis_sample.proofs.KeepLaws.{keep_step}

module _ (r : Row) (nibble : ℕ) where
  -- A sample on a row, once its status is known.
  step_is : (s : Status) → status_of r ≡ s → step_row r nibble ≡ step_by s r nibble
  unfolding step_row
  step_is s e = ap (λ (s : Status). step_by s r nibble) e

  -- The axis of a sampled row after a sample is a sampled axis.
  pub sampled_after : status_of r ≡ Sampled → SampledAxis (step_axis (axis_of r) (raw_of nibble)).axis
  sampled_after e = keep_step (axis_of r) (raw_of nibble) (sampled_gives r e)

  -- A sampled row steps as its axis does.
  pub row_steps : status_of r ≡ Sampled → step_row r nibble ≡ packed (step_axis (axis_of r) (raw_of nibble))
  unfolding step_by
  row_steps e = step_is Sampled e

  -- The axis of a sampled row after a sample is the axis after that sample.
  pub axis_after_lem : status_of r ≡ Sampled → axis_of (step_row r nibble).row ≡ (step_axis (axis_of r) (raw_of nibble)).axis
  axis_after_lem e =
      ap (λ (t : SteppedRow). axis_of t.row) (row_steps e)
      ∙ comes_back (step_axis (axis_of r) (raw_of nibble)).axis (sampled_held (sampled_after e))

  -- An empty row keeps every word, and sets no bit.
  pub empty_stays : status_of r ≡ Empty → step_row r nibble ≡ kept r false
  unfolding step_by
  empty_stays e = step_is Empty e

  -- So does a counter row.
  pub counter_stays : status_of r ≡ Counter → step_row r nibble ≡ kept r false
  unfolding step_by
  counter_stays e = step_is Counter e

  -- A broken row keeps every word, and sets its bit alone.
  pub broken_stays : status_of r ≡ Broken → step_row r nibble ≡ kept r true
  unfolding step_by
  broken_stays e = step_is Broken e

  -- A row is after a sample what it was before: empty, sampled, counter or broken.
  pub status_after : status_of (step_row r nibble).row ≡ status_of r
  status_after = go (status_of r) refl
    where
      go : (s : Status) → status_of r ≡ s → status_of (step_row r nibble).row ≡ status_of r
      go Empty e = ap (λ (t : SteppedRow). status_of t.row) (empty_stays e)
      go Sampled e = ap (λ (t : SteppedRow). status_of t.row) (row_steps e) ∙ sampled_from_lem (sampled_after e) ∙ sym e
      go Counter e = ap (λ (t : SteppedRow). status_of t.row) (counter_stays e)
      go Broken e = ap (λ (t : SteppedRow). status_of t.row) (broken_stays e)

  -- Four words of 64 bits stay four words of 64 bits.
  pub words_after : Words r → Words (step_row r nibble).row
  words_after h = go (status_of r) refl
    where
      go : (s : Status) → status_of r ≡ s → Words (step_row r nibble).row
      go Empty e = rw (empty_stays e) h
      go Sampled e =
          let g = sampled_after e in
          let a = (step_axis (axis_of r) (raw_of nibble)).axis in
          rw (row_steps e) (held_words a (sampled_held g) (omega (arith, g.word)) (omega (arith, g.config.turn)))
      go Counter e = rw (counter_stays e) h
      go Broken e = rw (broken_stays e) h

  -- A row that is not sampled stays, and is marked where it is broken.
  pub other_stays : is_sampled r ≡ false → step_row r nibble ≡ kept r (broken_by (status_of r))
  unfolding passes
  other_stays h = go (status_of r) refl
    where
      go : (s : Status) → status_of r ≡ s → step_row r nibble ≡ kept r (broken_by (status_of r))
      go Empty e = rw e (empty_stays e)
      go Sampled e = absurd (true≢false (sym ((status_exactly Sampled r).0 e) ∙ h))
      go Counter e = rw e (counter_stays e)
      go Broken e = rw e (broken_stays e)

-- ---- the fourth bit

-- The raw levels are those of bits 0 to 2.
low_bits : (m n : ℕ) → field_of 0 3 m ≡ field_of 0 3 n → raw_of m ≡ raw_of n
low_bits m n e =
    let z : field_of 2 1 m ≡ field_of 2 1 n = omega arith in
    let b : field_of 1 1 m ≡ field_of 1 1 n = omega arith in
    let a : field_of 0 1 m ≡ field_of 0 1 n = omega arith in
    λ i. record { a = eqb (a i) 1; b = eqb (b i) 1; z = eqb (z i) 1 }

-- The fourth bit is not read: samples that agree on the other three do the same to any row.
pub fourth_unread : (r : Row) (m n : ℕ) → field_of 0 3 m ≡ field_of 0 3 n → step_row r m ≡ step_row r n
unfolding step_row step_by
fourth_unread r m n e = go (status_of r)
  where
    go : (s : Status) → step_by s r m ≡ step_by s r n
    go Empty = refl
    go Sampled = ap (λ (w : Raw). packed (step_axis (axis_of r) w)) (low_bits m n e)
    go Counter = refl
    go Broken = refl
