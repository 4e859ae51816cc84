-- A shaft on row k of any run: a sampled x4 axis at depth 1, and a counter.
use Rattle.std.specs.Prelude.{Result, Ok}
use Prim.Native.Nat.{ℕ, ◌≤◌, ◌<◌}
use mathlib.Core.Path.{◌≡◌, sym, ap, ◌∙◌}
use mathlib.Core.Bool.{false}
use mathlib.Core.List.{List, ◌∷◌, ◌++◌}
use lib.Dec.{eqb}
use lib.IntN.{ℤ, ◌+ℤ◌, ◌-ℤ◌}
use lib.ListN.{length}
use Rattle.fields.specs.Field.{flag_of}
use Rattle.position.specs.Position.{position_of}
use Rattle.axis.specs.Kind.{X4}
use Rattle.axis.specs.Row.{axis_of}
use Rattle.axis.specs.declared.row.Row.{Row}
use Rattle.axis_sound.specs.Sound.{status_of}
use Rattle.axis_sound.specs.declared.Status.TheVariants.{Sampled, Counter}
use Rattle.axis_filter.specs.Lines.{raw_of}
use Rattle.row_counter.specs.Counter.{newest, low_bits, UnderHalf}
use Rattle.table_rows.specs.Table.{axes_in, row_at, AllWords}
use Rattle.table_port.specs.Port.{nibble, sampled_answer}
use Rattle.table_port.specs.declared.Masks.{Masks}
use Rattle.history_axis.specs.Shaft.{ShaftSample, raw_at, angle_at, turned_by, AtMostTwo, Undisturbed}
use Rattle.runs.specs.Told.{number, told_number}
use Rattle.runs.specs.Op.{reading, answer_of}
use Rattle.runs.specs.Run.{Call, table_run, answer_in}
use Rattle.runs.proofs.CallLaws.{named_answer}
use Rattle.history.specs.Shaft.{ShaftShown}
use Rattle.history.specs.Counter.{CounterReads}
use Rattle.history.proofs.ShaftHistory.{double_at_two_row, moves_as_shaft_row}
use Rattle.history.proofs.CounterHistory.{counter_shaft, counter_shaft_answers}
use Rattle.promises.specs.Own.{own}
use Rattle.promises.proofs.CountIsRight.{first_words, row_is, double_is, still_there}
use Rattle.refusal.specs.declared.Refusal.{Refusal}

module _ (t : List ℕ) (k : ℕ) (words : AllWords t) (h : k < axes_in (length t)) where
  -- ---- an x4 axis at depth 1

  module _ (live : status_of (row_at t k) ≡ Sampled) (kind : (axis_of (row_at t k)).config.kind ≡ X4)
      (depth : (axis_of (row_at t k)).config.depth ≡ 1) (first : ShaftSample) where
    -- Where no move is above two quarter steps, mask bit k stands at exactly the samples with two.
    pub shaft_double : (cs : List Call) (ts : List ShaftSample) → ShaftShown (own k cs) first ts →
        (word : ℕ) (s : ShaftSample) (m : Masks) →
        raw_of (nibble word k) ≡ raw_at s → turned_by first ts s ≤ 2 → sampled_answer (table_run t cs) word ≡ Ok m →
        flag_of k m.doubles ≡ eqb (turned_by first ts s) 2
    shaft_double cs ts shown word s m levels g e =
        double_is t k words h cs word m e ∙ double_at_two_row (first_words t k words h cs) live kind depth shown (nibble word k) s levels g

    -- Over any stretch of samples without E or homing the position of row k moves exactly as the shaft does, where RANGE is clear.
    pub shaft_position : (cs ds : List Call) (old new : List ShaftSample) → ShaftShown (own k cs) first old →
        ShaftShown (own k (cs ++ ds)) first (new ++ old) → AtMostTwo first old new → Undisturbed (axis_of (row_at t k)) first old new →
        (axis_of (row_at (table_run t (cs ++ ds)) k)).flags.range ≡ false →
        position_of (row_at (table_run t (cs ++ ds)) k).w0
        ≡ position_of (row_at (table_run t cs) k).w0 +ℤ (angle_at first (new ++ old) -ℤ angle_at first old)
    shaft_position cs ds old new before after g p clear =
        let now = row_is t k words h (cs ++ ds) in
        ap (λ (r : Row). position_of r.w0) now
        ∙ moves_as_shaft_row (first_words t k words h cs) live kind depth old new before after g p
        (sym (ap (λ (r : Row). (axis_of r).flags.range) now) ∙ clear)
        ∙ rw (row_is t k words h cs)

  -- ---- a counter

  module _ (live : status_of (row_at t k) ≡ Counter) (cs : List Call) {ps : List ℤ}
      (reads : CounterReads (row_at t k) (axis_of (row_at t k)).config.width (own k cs) ps) where
    -- A counter that was read while its shaft moved less than half a turn from reading to reading is where the shaft is.
    pub shaft_counter : UnderHalf (axis_of (row_at t k)).config.width (position_of (row_at t k).w0) ps →
        position_of (row_at (table_run t cs) k).w0 ≡ newest (position_of (row_at t k).w0) ps
    shaft_counter g = ap (λ (r : Row). position_of r.w0) (row_is t k words h cs) ∙ counter_shaft (row_at t k) live reads g

    -- And its next reading answers where the shaft is then.
    pub shaft_reading : {p : ℤ} → UnderHalf (axis_of (row_at t k)).config.width (position_of (row_at t k).w0) (p ∷ ps) →
        answer_in (table_run t cs) k (reading (low_bits (axis_of (row_at t k)).config.width p)) ≡ number p
    unfolding answer_of
    shaft_reading g =
        named_answer (table_run t cs) k (still_there t k words h cs) _
        ∙ rw (row_is t k words h cs) (ap (λ (a : Result ℤ Refusal). told_number a) (counter_shaft_answers (row_at t k) live reads g))
