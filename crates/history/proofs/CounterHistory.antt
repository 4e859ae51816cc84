-- Demand 2 for a counter row: its position after any events.
use Rattle.std.specs.Prelude.{Ok}
use mathlib.Core.Path.{◌≡◌, refl, sym, ◌∙◌, ap}
use mathlib.Core.Bool.{true}
use mathlib.Core.List.{List, ◌∷◌}
use Prim.Native.Nat.{ℕ}
use lib.IntN.{ℤ, pos}
use Rattle.position.specs.Position.{in_range, position_of}
use Rattle.position.proofs.PositionLaws.{position_word}
use Rattle.reckon.specs.Widening.{widened}
use Rattle.axis.specs.Config.{good_config}
use Rattle.axis.specs.Row.{axis_of, Words}
use Rattle.axis_sound.specs.Sound.{status_of}
use Rattle.axis.specs.declared.row.Axis.{Axis}
use Rattle.axis.specs.declared.row.Row.{Row}
use Rattle.axis_sound.specs.declared.Status.TheVariants.{Empty, Counter}
use Rattle.row_sample.specs.declared.SteppedRow.{SteppedRow}
use Rattle.row_sample.proofs.SampleLaws.{counter_stays}
use Rattle.record.specs.Record.{read_as}
use Rattle.record_axis.specs.declared.saved.Saved.{Saved}
use Rattle.record_axis.proofs.LimitsLaws.{within_parts}
use Rattle.record.proofs.RecordLaws.{accepted_within}
use Rattle.row_calls.specs.Change.{changed}
use Rattle.row_calls.specs.Calls.{left_by, arm_row, acknowledge_row}
use Rattle.row_counter.specs.Reading.{reading_row, read_row}
use Rattle.row_counter.specs.Counter.{newest, low_bits, row_read, UnderHalf, polled}
use Rattle.row_counter.proofs.CounterLaws.{counter_follows, counter_position, counter_answers}
use Rattle.row_calls.specs.Calls.{Setup, Preset, Arm, Acknowledge}
use Rattle.runs.specs.Op.{Look, changes, restore, reading, looks, rule_of, row_after}
use Rattle.runs.specs.Event.{Event, bits, asked, row_next, row_since}
use Rattle.runs.proofs.CallLaws.{refused_after}
use Rattle.history.specs.Phase.{phase_of, after_event, after_change, after_call}
use Rattle.history.specs.Counter.{Aside, CounterReads, none, read, between, refusing}
use Rattle.history.proofs.EventLaws.{reading_told, tells}
use Rattle.history.proofs.RowHistory.{phase_lawful, status_history, empty_history, counter_history}

-- ---- the place of a phase

module _ {r : Row} (words : Words r) (h : List Event) (empty : status_of (row_since r h) ≡ Empty) where
  -- A setup that is accepted puts the place to 0.
  pub place_setup : (kind depth width turn : ℕ) → good_config kind depth width turn ≡ true →
      (phase_of r (asked (changes (Setup kind depth width turn)) ∷ h)).place ≡ pos 0
  unfolding phase_of after_event after_call after_change position_of
  place_setup kind depth width turn good = rw (empty_history words h empty, good)

  -- A restore that is accepted puts the place to the position saved.
  pub place_restore : (bytes : List ℕ) (s : Saved) → read_as bytes ≡ Ok s →
      (phase_of r (asked (restore bytes) ∷ h)).place ≡ s.position
  unfolding phase_of after_event after_call after_change
  place_restore bytes s e =
      rw (e, empty_history words h empty) (position_word s.position (within_parts s (accepted_within bytes s e)).1)

module _ {r : Row} (words : Words r) (h : List Event) (counter : status_of (row_since r h) ≡ Counter) where
  first : status_of (phase_of r h).start ≡ Counter
  first = sym (status_history words h) ∙ counter

  -- A preset in the range puts the place of a counter there.
  pub place_preset : (z : ℤ) → in_range z ≡ true → (phase_of r (asked (changes (Preset z)) ∷ h)).place ≡ z
  unfolding phase_of after_event after_call after_change
  place_preset z ok = rw (ok, first)

  -- A reading that is accepted puts the place of a counter where it says.
  pub place_reading : (x : ℕ) (z : ℤ) → widened (axis_of (row_since r h)).config.width (position_of (row_since r h).w0) x ≡ Ok z →
      (phase_of r (asked (reading x) ∷ h)).place ≡ z
  unfolding phase_of after_event after_call after_change
  place_reading x z e = rw (first, sym (reading_told words (tells words h) x first) ∙ e)

  -- The position of a counter is its phase's place.
  pub position_counter : position_of (row_since r h).w0 ≡ (phase_of r h).place
  unfolding changed
  position_counter =
      ap (λ (x : Axis). position_of x.word) (counter_history words h first)
      ∙ position_word (phase_of r h).place ((phase_lawful words h).placed first)

-- ---- a counter on a shaft

-- A sample, an arm, an acknowledge and a look leave every counter alone.
pub sample_aside : (n : ℕ) → Aside (bits n)
unfolding row_next
sample_aside n r c = ap (λ (t : SteppedRow). t.row) (counter_stays r n c)

pub arm_aside : Aside (asked (changes Arm))
unfolding row_next row_after rule_of arm_row
arm_aside r c = rw c

pub acknowledge_aside : Aside (asked (changes Acknowledge))
unfolding row_next row_after rule_of acknowledge_row
acknowledge_aside r c = rw c

pub look_aside : (l : Look) → Aside (asked (looks l))
unfolding row_next row_after rule_of
look_aside l r c = refl

module _ (r : Row) (counter : status_of r ≡ Counter) where
  abbrev width : ℕ
  width = (axis_of r).config.width

  abbrev start : ℤ
  start = position_of (axis_of r).word

  only_readings : {h : List Event} {ps : List ℤ} → CounterReads r width h ps → UnderHalf width start ps → row_since r h ≡ row_read width r ps
  unfolding row_since row_read row_next row_after rule_of
  only_readings none g = refl
  only_readings (read p d) (polled q ps ok near g) = ap (λ (s : Row). left_by s (read_row (low_bits width p) s)) (only_readings d g)
  only_readings (between e q d) g =
      let same = only_readings d g in
      q _ (ap status_of same ∙ (counter_follows r counter g).status) ∙ same
  only_readings (refusing {h} o e q d) g = refused_after (row_since r h) o e q ∙ only_readings d g

  -- A counter on a shaft that moves less than half a turn between readings is where the shaft is, whatever else happens to its
  -- row between.
  pub counter_shaft : {h : List Event} {ps : List ℤ} → CounterReads r width h ps → UnderHalf width start ps →
      position_of (row_since r h).w0 ≡ newest start ps
  counter_shaft d g = ap (λ (s : Row). position_of s.w0) (only_readings d g) ∙ counter_position r counter g

  -- And a reading there answers the shaft's position.
  pub counter_shaft_answers : {h : List Event} {p : ℤ} {ps : List ℤ} → CounterReads r width h ps → UnderHalf width start (p ∷ ps) →
      reading_row (low_bits width p) (row_since r h) ≡ Ok p
  counter_shaft_answers d (polled p ps ok near g) =
      ap (λ (s : Row). reading_row (low_bits width p) s) (only_readings d g) ∙ counter_answers r counter (polled p ps ok near g)
