-- Demand 2 for a sampled row: its fields and its bits of the answer after any events, by what its phase began with and what has happened
-- since.
use mathlib.Core.Path.{◌≡◌, sym, ◌∙◌, ap}
use mathlib.Core.Bool.{true, false, ◌&&◌}
use mathlib.Core.List.{List, ◌∷◌}
use Prim.Native.Nat.{ℕ, ◌+◌, min}
use lib.IntN.{◌+ℤ◌}
use Rattle.position.specs.Position.{position_of}
use Rattle.axis.specs.Row.{axis_of, Words}
use Rattle.axis_sound.specs.Sound.{status_of}
use Rattle.axis.specs.declared.row.Axis.{Axis}
use Rattle.axis.specs.declared.row.Row.{Row}
use Rattle.axis_sound.specs.declared.Status.TheVariants.{Sampled}
use Rattle.axis_filter.specs.Lines.{Wire, raw_of}
use Rattle.axis_decode.specs.Decode.{entry, worth}
use Rattle.axis_settle.specs.Lines.{line}
use Rattle.row_sample.specs.Sample.{step_row}
use Rattle.history_axis.specs.Acts.{sampled, after, Legal}
use Rattle.history_axis.specs.Start.{Start}
use Rattle.history_axis.specs.Levels.{primed_at, level_at}
use Rattle.history_axis.specs.Entries.{code_at, number_of_e, both_change, double_at}
use Rattle.history_axis.specs.Edge.{edge_at}
use Rattle.history_axis.specs.Homing.{homes_at}
use Rattle.history_axis.specs.Tally.{sum, place_tally, doubles_tally}
use Rattle.runs.specs.Told.{Marks}
use Rattle.runs.specs.Event.{Event, bits, row_since}
use Rattle.history.specs.Phase.{Phase, acted, phase_of, after_event, start_axis, acts_since, marked_by, told_marks}
use Rattle.history_axis.proofs.EntriesLaws.{double_lines}
use Rattle.history_axis.proofs.ToldLaws.{whole_history}
use Rattle.history_axis.proofs.HistoryLaws.{level_history, position_history, doubles_history, later_counts}
use Rattle.history_axis.proofs.StartLaws.{start_sound}
use Rattle.history.proofs.RowHistory.{phase_lawful, status_history, sampled_history, marks_history}

module _ {r : Row} (words : Words r) (h : List Event) (live : status_of (row_since r h) ≡ Sampled) where
  -- The phase began with a sampled row.
  first : status_of (phase_of r h).start ≡ Sampled
  first = sym (status_history words h) ∙ live

  -- Which is such as a history starts from.
  pub start : Start (start_axis r h)
  start = start_sound (phase_of r h).start first

  -- Its acts were accepted.
  pub legal : Legal (acts_since r h)
  legal = (phase_lawful words h).legal

  -- The axis of the row is the axis after the acts of its phase.
  pub axis_row : axis_of (row_since r h) ≡ after (start_axis r h) (acts_since r h)
  axis_row = sampled_history words h first ∙ sym (whole_history (start_axis r h) start (acts_since r h) legal)

  -- Each filtered level is that of the latest consecutive equal raw samples.
  pub level_row : (w : Wire) → (line (axis_of (row_since r h)) w).level ≡ level_at (start_axis r h) w (acts_since r h)
  level_row w = ap (λ (x : Axis). (line x w).level) axis_row ∙ level_history (start_axis r h) start (acts_since r h) legal w

  -- While RANGE is clear, the position is the last value given plus the sum of the entries since.
  pub position_row : (axis_of (row_since r h)).flags.range ≡ false →
      position_of (row_since r h).w0 ≡ (place_tally (start_axis r h) (acts_since r h)).value.position +ℤ sum
      (place_tally (start_axis r h) (acts_since r h)).moves
  position_row clear =
      ap (λ (x : Axis). position_of x.word) axis_row
      ∙ position_history (start_axis r h) start (acts_since r h) legal (sym (ap (λ (x : Axis). x.flags.range) axis_row) ∙ clear)

  -- Doubles is the smaller of 65,535 and the E entries since the last setup, restore or acknowledge.
  pub doubles_row : (axis_of (row_since r h)).doubles ≡
      min 65535 ((doubles_tally (start_axis r h) (acts_since r h)).value + number_of_e (doubles_tally (start_axis r h) (acts_since r h)).moves)
  doubles_row = ap (λ (x : Axis). x.doubles) axis_row ∙ doubles_history (start_axis r h) start (acts_since r h) legal

  -- A sample's double bit is set exactly where its entry is E.
  pub double_bit_row : (n : ℕ) → (step_row (row_since r h) n).double ≡ double_at (start_axis r h) (raw_of n) (acts_since r h)
  unfolding told_marks marked_by
  double_bit_row n = ap (λ (m : Marks). m.double) (marks_history words h n) ∙ rw first

  -- It is set exactly where the axis is primed and both filtered lines change.
  pub double_lines_row : (n : ℕ) →
      (step_row (row_since r h) n).double
      ≡ (primed_at (start_axis r h) (acts_since r h) && both_change (start_axis r h) (raw_of n) (acts_since r h))
  double_lines_row n = double_bit_row n ∙ double_lines (start_axis r h) (raw_of n) (acts_since r h)

  -- A sample's index bit is set exactly where it is a reference edge.
  pub index_bit_row : (n : ℕ) → (step_row (row_since r h) n).index ≡ edge_at (start_axis r h) (raw_of n) (acts_since r h)
  unfolding told_marks marked_by
  index_bit_row n = ap (λ (m : Marks). m.index) (marks_history words h n) ∙ rw first

-- ---- one sample more

module _ {r : Row} (words : Words r) (h : List Event) (live : status_of (row_since r h) ≡ Sampled) (n : ℕ) where
  -- The phase with it.
  pub next_phase : phase_of r (bits n ∷ h) ≡ acted (phase_of r h) (sampled (raw_of n))
  unfolding phase_of after_event
  next_phase = rw (first words h live)

  -- The row stays sampled.
  pub next_live : status_of (row_since r (bits n ∷ h)) ≡ Sampled
  next_live = status_history words (bits n ∷ h) ∙ ap (λ (p : Phase). status_of p.start) next_phase ∙ first words h live

  -- The axis after it.
  pub next_axis : axis_of (row_since r (bits n ∷ h)) ≡ after (start_axis r h) (sampled (raw_of n) ∷ acts_since r h)
  next_axis =
      axis_row words (bits n ∷ h) next_live ∙ ap (λ (p : Phase). after (axis_of p.start) p.acts) next_phase

  -- A sample on a primed axis that neither homes nor leaves RANGE set moves the position by what its entry is worth.
  pub later_sample_row : primed_at (start_axis r h) (acts_since r h) ≡ true →
      homes_at (start_axis r h) (raw_of n) (acts_since r h) ≡ false → (axis_of (row_since r (bits n ∷ h))).flags.range ≡ false →
      position_of (row_since r (bits n ∷ h)).w0
      ≡ position_of (row_since r h).w0 +ℤ worth
      (entry (start_axis r h).config.kind (code_at (start_axis r h) (acts_since r h))
      (code_at (start_axis r h) (sampled (raw_of n) ∷ acts_since r h)))
  later_sample_row primed stays clear =
      ap (λ (x : Axis). position_of x.word) next_axis
      ∙ later_counts (start_axis r h) (start words h live) (acts_since r h) (legal words h live) primed (raw_of n) stays
      (sym (ap (λ (x : Axis). x.flags.range) next_axis) ∙ clear)
      ∙ rw (ap (λ (x : Axis). position_of x.word) (axis_row words h live))
