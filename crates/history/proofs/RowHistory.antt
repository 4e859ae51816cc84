-- Demand 2 for a row: what its four words and its bits of the answer are after any events, from any four words.
use mathlib.Core.Path.{◌≡◌, refl, sym, ◌∙◌, ap}
use mathlib.Core.Bool.{true}
use mathlib.Core.List.{List, [], ◌∷◌, ◌++◌}
use Prim.Native.Nat.{ℕ}
use Rattle.axis.specs.Row.{axis_of, Words}
use Rattle.axis_sound.specs.Sound.{is_empty, status_of, passes}
use Rattle.axis_sound.proofs.SoundLaws.{status_exactly}
use Rattle.axis.specs.declared.row.Axis.{Axis}
use Rattle.axis.specs.declared.row.Row.{Row}
use Rattle.axis_sound.specs.declared.Status.{Status}
use Rattle.axis_sound.specs.declared.Status.TheVariants.{Empty, Sampled, Counter, Broken}
use Rattle.axis_filter.specs.Lines.{raw_of}
use Rattle.axis_sample.specs.Step.{step_axis}
use Rattle.row_sample.specs.Sample.{packed, step_by, step_row}
use Rattle.axis_sample.specs.declared.step.Stepped.{Stepped}
use Rattle.row_calls.specs.Change.{Holds}
use Rattle.row_counter.specs.Reading.{read_axis}
use Rattle.runs.specs.Told.{Marks, marks, marks_of}
use Rattle.runs.specs.Op.{answer_of}
use Rattle.runs.specs.Event.{Event, bits, asked, row_next, row_since, told_of}
use Rattle.history_axis.specs.Told.{told_axis, answered}
use Rattle.history.specs.Phase.{phase_of, told_row, marked_by, told_marks, told_at}
use Rattle.history.specs.Lawful.{Lawful}
use Rattle.history_axis.proofs.ToldLaws.{sample_told}
use Rattle.history_axis.proofs.StartLaws.{start_sound}
use Rattle.history.proofs.PhaseLaws.{told_holds, axis_sampled, axis_counter}
use Rattle.history.proofs.EventLaws.{tells}

-- A history in two parts is the newer part from the row after the older one.
pub since_append : (r : Row) (new old : List Event) → row_since r (new ++ old) ≡ row_since (row_since r old) new
unfolding row_since
since_append r [] old = refl
since_append r (e ∷ new) old = ap (λ (s : Row). row_next s e) (since_append r new old)

module _ {r : Row} (words : Words r) (h : List Event) where
  -- Every phase begins with the given row or with one that an accepted setup, an erase or an accepted
  -- restore makes, its acts were accepted, and the place of a counter is in the range.
  pub phase_lawful : Lawful r (phase_of r h)
  phase_lawful = (tells words h).lawful

  -- The row after any events is, in all four words, the one that its phase tells.
  pub row_history : row_since r h ≡ told_row (phase_of r h)
  row_history = (tells words h).row

  whole : Holds (told_row (phase_of r h)) (status_of (phase_of r h).start) (axis_of (told_row (phase_of r h)))
  whole = told_holds phase_lawful words

  -- It is empty, sampled, a counter or broken as the row that the phase began with.
  pub status_history : status_of (row_since r h) ≡ status_of (phase_of r h).start
  status_history = ap status_of row_history ∙ whole.status

  -- Where it is empty, the phase began with four zero words.
  pub empty_history : status_of (row_since r h) ≡ Empty → is_empty (phase_of r h).start ≡ true
  unfolding passes
  empty_history e = (status_exactly Empty (phase_of r h).start).0 (sym status_history ∙ e)

  -- It is four words of 64 bits.
  pub words_history : Words (row_since r h)
  words_history = rw row_history whole.words

  -- The axis of a sampled row is the one that the acts of the phase tell.
  pub sampled_history : status_of (phase_of r h).start ≡ Sampled →
      axis_of (row_since r h) ≡ told_axis (axis_of (phase_of r h).start) (phase_of r h).acts
  sampled_history e = ap axis_of row_history ∙ axis_sampled phase_lawful e

  -- The axis of a counter is the one that the phase began with, at the phase's place.
  pub counter_history : status_of (phase_of r h).start ≡ Counter →
      axis_of (row_since r h) ≡ read_axis (phase_of r h).place (axis_of (phase_of r h).start)
  counter_history e = ap axis_of row_history ∙ axis_counter phase_lawful e

  -- A sample's bits of the answer are those that the phase tells.
  pub marks_history : (n : ℕ) → marks_of (step_row (row_since r h) n) ≡ told_marks (phase_of r h) n
  unfolding step_row step_by told_marks marked_by answered
  marks_history n = rw status_history (go (status_of (phase_of r h).start) refl)
    where
      go : (s : Status) → status_of (phase_of r h).start ≡ s → marks_of (step_by s (row_since r h) n) ≡ marked_by s (phase_of r h) n
      go Empty e = refl
      go Sampled e =
          let p = phase_of r h in
          ap (λ (x : Axis). marks_of (packed (step_axis x (raw_of n)))) (sampled_history e)
          ∙ ap (λ (o : Stepped). marks_of (packed o))
          (sample_told (axis_of p.start) (start_sound p.start e) (raw_of n) p.acts phase_lawful.legal)
      go Counter e = refl
      go Broken e = refl

  -- All that a row is told by an event, its bits of a sample or the answer of a call, is what the phase tells of it.
  pub told_history : (e : Event) → told_of (row_since r h) e ≡ told_at (phase_of r h) e
  unfolding told_of told_at
  told_history (bits n) = ap (λ (m : Marks). marks m) (marks_history n)
  told_history (asked o) = ap (answer_of o) row_history
