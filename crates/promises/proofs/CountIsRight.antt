-- Demand 2 for tables: row k of any run of calls is what the history of axis k tells.
use Rattle.std.specs.Prelude.{Ok}
use mathlib.Core.Path.{◌≡◌, refl, sym, ap, ◌∙◌}
use mathlib.Core.Logic.{◌≢◌}
use mathlib.Core.Bool.{false, ◌&&◌}
use mathlib.Core.List.{List, [], ◌∷◌, ◌++◌, reverse, reverse_aux, append_assoc, append-nil, reverse-append}
use Prim.Native.Nat.{ℕ, ◌+◌, ◌<◌, min}
use borrow.Author.Tests.{eq-eqb, ne_eqb}
use lib.IntN.{◌+ℤ◌}
use lib.ListN.{length}
use Rattle.fields.specs.Field.{flag_of}
use Rattle.position.specs.Position.{position_of}
use Rattle.axis.specs.Row.{axis_of, Words}
use Rattle.axis_sound.specs.Sound.{status_of}
use Rattle.axis.specs.declared.row.Row.{Row}
use Rattle.axis_sound.specs.declared.Status.{Status}
use Rattle.axis_sound.specs.declared.Status.TheVariants.{Empty, Sampled, Counter, Broken}
use Rattle.axis_filter.specs.Lines.{raw_of}
use Rattle.row_sample.specs.Sample.{step_row}
use Rattle.runs.specs.Op.{Op}
use Rattle.runs.specs.Event.{Event, bits, asked, row_since}
use Rattle.runs.specs.Run.{Call, port, names, table_run}
use Rattle.runs.proofs.CallLaws.{run_length}
use Rattle.history.specs.Phase.{phase_of, told_row, start_axis, acts_since}
use Rattle.history_axis.specs.Levels.{primed_at}
use Rattle.history_axis.specs.Entries.{number_of_e, both_change}
use Rattle.history_axis.specs.Edge.{edge_at}
use Rattle.history_axis.specs.Tally.{place_tally, doubles_tally, sum}
use Rattle.history.proofs.RowHistory.{row_history}
use Rattle.history.proofs.SampledHistory.{position_row, doubles_row, double_lines_row, index_bit_row}
use Rattle.history.proofs.CounterHistory.{position_counter}
use Rattle.table_rows.specs.Table.{axes_in, row_at, AllWords}
use Rattle.table_rows.proofs.RowsLaws.{row_words}
use Rattle.table_port.specs.Port.{nibble, sampled_answer}
use Rattle.table_port.specs.declared.Masks.{Masks}
use Rattle.table_port.proofs.PortLaws.{sample_bits, empty_row_lem, counter_row, broken_row}
use Rattle.promises.specs.Own.{seen, event_of, events, own, row_run}
use Rattle.promises.proofs.RunLaws.{alone}

-- Events oldest first, and the same newest first, make one row.
onto : (r : Row) (es h : List Event) → row_run (row_since r h) es ≡ row_since r (reverse_aux es h)
unfolding row_run row_since
onto r [] h = refl
onto r (e ∷ es) h = onto r es (e ∷ h)

run_since : (r : Row) (es : List Event) → row_run r es ≡ row_since r (reverse es)
unfolding row_since
run_since r es = onto r es []

events_append : (k : ℕ) (cs ds : List Call) → events k (cs ++ ds) ≡ events k cs ++ events k ds
unfolding events
events_append k [] ds = refl
events_append k (c ∷ cs) ds = rw (events_append k cs ds, append_assoc)

-- Axis k's own events with a call more: with a sample, and with a call that names an axis.
own_step : (k : ℕ) (cs : List Call) (c : Call) → own k (cs ++ (c ∷ [])) ≡ reverse (event_of k c) ++ own k cs
unfolding events
own_step k cs c = rw (events_append k cs (c ∷ []), append-nil) (reverse-append (events k cs) (event_of k c))

pub own_next : (k : ℕ) (cs : List Call) (word : ℕ) → own k (cs ++ (port word ∷ [])) ≡ bits (nibble word k) ∷ own k cs
unfolding event_of
own_next k cs word = own_step k cs (port word)

pub own_named : (k : ℕ) (cs : List Call) (op : Op) → own k (cs ++ (names k op ∷ [])) ≡ asked (seen op) ∷ own k cs
unfolding event_of
own_named k cs op = own_step k cs (names k op) ∙ rw (eq-eqb k k refl)

pub own_other : (k j : ℕ) (cs : List Call) (op : Op) → j ≢ k → own k (cs ++ (names j op ∷ [])) ≡ own k cs
unfolding event_of
own_other k j cs op other = own_step k cs (names j op) ∙ rw (ne_eqb j k other)

module _ (t : List ℕ) (k : ℕ) (words : AllWords t) (h : k < axes_in (length t)) (cs : List Call) where
  -- The words of row k before the run.
  pub first_words : Words (row_at t k)
  first_words = row_words t k words

  -- Row k of a run is row k alone after its own events.
  pub row_is : row_at (table_run t cs) k ≡ row_since (row_at t k) (own k cs)
  row_is = (alone t k h cs).row ∙ run_since (row_at t k) (events k cs)

  -- It has one status.
  pub status_is : {s : Status} → status_of (row_at (table_run t cs) k) ≡ s → status_of (row_since (row_at t k) (own k cs)) ≡ s
  status_is e = sym (ap status_of row_is) ∙ e

  -- Axis k is there after the run.
  pub still_there : k < axes_in (length (table_run t cs))
  still_there = rw (run_length t cs) h

  -- Row k after any run of calls on a table is, in all four words, the one that the history of axis k tells.
  pub row_told : row_at (table_run t cs) k ≡ told_row (phase_of (row_at t k) (own k cs))
  row_told = row_is ∙ row_history first_words (own k cs)

  -- A sampled row's position, while RANGE is clear, is the last setup, preset, restored or homing value plus the sum of the mode's entries
  -- since, and of a homing backward its own entry too.
  pub position_told : status_of (row_at (table_run t cs) k) ≡ Sampled → (axis_of (row_at (table_run t cs) k)).flags.range ≡ false →
      position_of (row_at (table_run t cs) k).w0
      ≡ (place_tally (start_axis (row_at t k) (own k cs)) (acts_since (row_at t k) (own k cs))).value.position +ℤ sum
      (place_tally (start_axis (row_at t k) (own k cs)) (acts_since (row_at t k) (own k cs))).moves
  position_told s clear =
      ap (λ (r : Row). position_of r.w0) row_is
      ∙ position_row first_words (own k cs) (status_is s) (sym (ap (λ (r : Row). (axis_of r).flags.range) row_is) ∙ clear)

  -- Its doubles is the smaller of 65,535 and the E entries since setup, restore or acknowledge.
  pub doubles_told : status_of (row_at (table_run t cs) k) ≡ Sampled →
      (axis_of (row_at (table_run t cs) k)).doubles
      ≡ min 65535
      ((doubles_tally (start_axis (row_at t k) (own k cs)) (acts_since (row_at t k) (own k cs))).value
      + number_of_e (doubles_tally (start_axis (row_at t k) (own k cs)) (acts_since (row_at t k) (own k cs))).moves)
  doubles_told s = ap (λ (r : Row). (axis_of r).doubles) row_is ∙ doubles_row first_words (own k cs) (status_is s)

  -- A counter's position is its last set, preset or restored value, or where its last accepted reading puts it.
  pub counter_told : status_of (row_at (table_run t cs) k) ≡ Counter →
      position_of (row_at (table_run t cs) k).w0 ≡ (phase_of (row_at t k) (own k cs)).place
  counter_told s = ap (λ (r : Row). position_of r.w0) row_is ∙ position_counter first_words (own k cs) (status_is s)

  module _ (word : ℕ) (m : Masks) (e : sampled_answer (table_run t cs) word ≡ Ok m) where
    -- The double bit of a sample after the run is that of row k alone.
    pub double_is : flag_of k m.doubles ≡ (step_row (row_since (row_at t k) (own k cs)) (nibble word k)).double
    double_is =
        (sample_bits (table_run t cs) word k still_there m e).doubles ∙ ap (λ (r : Row). (step_row r (nibble word k)).double) row_is

    -- So is the index bit.
    pub index_is : flag_of k m.index ≡ (step_row (row_since (row_at t k) (own k cs)) (nibble word k)).index
    index_is = (sample_bits (table_run t cs) word k still_there m e).index ∙ ap (λ (r : Row). (step_row r (nibble word k)).index) row_is

    -- The double bit stands exactly where, on a primed axis, both filtered lines change.
    pub double_told : status_of (row_at (table_run t cs) k) ≡ Sampled →
        flag_of k m.doubles
        ≡ (primed_at (start_axis (row_at t k) (own k cs)) (acts_since (row_at t k) (own k cs))
        && both_change (start_axis (row_at t k) (own k cs)) (raw_of (nibble word k)) (acts_since (row_at t k) (own k cs)))
    double_told s = double_is ∙ double_lines_row first_words (own k cs) (status_is s) (nibble word k)

    -- The index bit stands exactly where the sample is a reference edge.
    pub index_told : status_of (row_at (table_run t cs) k) ≡ Sampled →
        flag_of k m.index ≡ edge_at (start_axis (row_at t k) (own k cs)) (raw_of (nibble word k)) (acts_since (row_at t k) (own k cs))
    index_told s = index_is ∙ index_bit_row first_words (own k cs) (status_is s) (nibble word k)

    -- A row that is not sampled has neither.
    pub bits_none : status_of (row_at (table_run t cs) k) ≢ Sampled → (flag_of k m.doubles ≡ false) × (flag_of k m.index ≡ false)
    bits_none other = go (status_of (row_at (table_run t cs) k)) refl
      where
        go : (s : Status) → status_of (row_at (table_run t cs) k) ≡ s → (flag_of k m.doubles ≡ false) × (flag_of k m.index ≡ false)
        go Empty q = let n = (empty_row_lem (table_run t cs) word k still_there q).bits m e in (n.doubles, n.index)
        go Counter q = let n = (counter_row (table_run t cs) word k still_there q).bits m e in (n.doubles, n.index)
        go Broken q = let n = (broken_row (table_run t cs) word k still_there q).bits m e in (n.doubles, n.index)
        go Sampled q = absurd (other q)

-- Row k after one sample more.
pub next_is : (t : List ℕ) (k : ℕ) (words : AllWords t) (h : k < axes_in (length t)) (cs : List Call) (word : ℕ) →
    row_at (table_run t (cs ++ (port word ∷ []))) k ≡ row_since (row_at t k) (bits (nibble word k) ∷ own k cs)
next_is t k words h cs word = row_is t k words h (cs ++ (port word ∷ [])) ∙ ap (row_since (row_at t k)) (own_next k cs word)
