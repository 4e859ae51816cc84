-- The shaft on a row: at depth 1, x4, with no call between, E stands at exactly the samples with a move of two, and the position moves as
-- the shaft does.
use mathlib.Core.Path.{◌≡◌, refl, sym, ap, ◌∙◌}
use mathlib.Core.Bool.{false}
use mathlib.Core.List.{List, [], ◌∷◌, ◌++◌, map}
use Prim.Native.Nat.{ℕ, ◌≤◌}
use lib.Dec.{eqb}
use lib.IntN.{◌+ℤ◌, ◌-ℤ◌}
use Rattle.position.specs.Position.{position_of}
use Rattle.axis.specs.Kind.{X4}
use Rattle.axis.specs.Row.{axis_of, Words}
use Rattle.axis_sound.specs.Sound.{status_of}
use Rattle.axis.specs.declared.row.Axis.{Axis}
use Rattle.axis.specs.declared.row.Row.{Row}
use Rattle.axis_sound.specs.declared.Status.TheVariants.{Sampled}
use Rattle.axis_filter.specs.declared.Raw.{Raw}
use Rattle.axis_filter.specs.Lines.{raw_of}
use Rattle.row_sample.specs.Sample.{step_row}
use Rattle.history_axis.specs.Acts.{sampled, after}
use Rattle.history_axis.specs.Entries.{double_at}
use Rattle.history_axis.specs.Shaft.{ShaftSample, raw_at, watched, angle_at, turned_by, AtMostTwo, Undisturbed}
use Rattle.history_axis.proofs.HistoryLaws.{double_bit}
use Rattle.history_axis.proofs.StartLaws.{start_sound}
use Rattle.history_axis.proofs.ShaftLaws.{legal_watched, double_at_two, moves_as_shaft}
use Rattle.runs.specs.Event.{Event, bits, row_since}
use Rattle.history.specs.Phase.{Phase, phase_of, after_event}
use Rattle.history.specs.Shaft.{ShaftShown}
use Rattle.history.proofs.RowHistory.{status_history}
use Rattle.history.proofs.SampledHistory.{axis_row, double_bit_row}

place : {x y : Axis} → x ≡ y → position_of x.word ≡ position_of y.word
place e = ap (λ (x : Axis). position_of x.word) e

module _ {r : Row} (words : Words r) (live : status_of r ≡ Sampled) where
  -- The phase of a sampled row after samples alone.
  after_samples : (ns : List ℕ) →
      phase_of r (map bits ns) ≡ record { start = r; acts = map (λ n. sampled (raw_of n)) ns; place = position_of r.w0 }
  unfolding phase_of after_event
  after_samples [] = refl
  after_samples (n ∷ ns) = rw (after_samples ns, live)

  module _ {h : List Event} {first : ShaftSample} {ts : List ShaftSample} (shown : ShaftShown h first ts) where
    phase_shown : phase_of r h ≡ record { start = r; acts = watched first ts; place = position_of r.w0 }
    phase_shown = rw (shown.samples, after_samples shown.nibbles, shown.levels)

    status_shown : status_of (row_since r h) ≡ Sampled
    status_shown = status_history words h ∙ ap (λ (p : Phase). status_of p.start) phase_shown ∙ live

    axis_shown : axis_of (row_since r h) ≡ after (axis_of r) (watched first ts)
    axis_shown = axis_row words h status_shown ∙ ap (λ (p : Phase). after (axis_of p.start) p.acts) phase_shown

  module _ (kind : (axis_of r).config.kind ≡ X4) (depth : (axis_of r).config.depth ≡ 1) {first : ShaftSample} where
    -- Where no move is above two quarter steps, the double bit stands at exactly the samples with two.
    pub double_at_two_row : {h : List Event} {ts : List ShaftSample} → ShaftShown h first ts → (n : ℕ) (t : ShaftSample) →
        raw_of n ≡ raw_at t → turned_by first ts t ≤ 2 → (step_row (row_since r h) n).double ≡ eqb (turned_by first ts t) 2
    double_at_two_row {h} {ts} shown n t e g =
        let start = start_sound r live in
        double_bit_row words h (status_shown shown) n
        ∙ ap (λ (p : Phase). double_at (axis_of p.start) (raw_of n) p.acts) (phase_shown shown)
        ∙ ap (λ (s : Raw). double_at (axis_of r) s (watched first ts)) e
        ∙ sym (double_bit (axis_of r) start (watched first ts) (legal_watched first ts) (raw_at t))
        ∙ double_at_two (axis_of r) start kind depth first ts t g

    -- Over any stretch of samples without E or homing, also after an earlier E, the position moves exactly as the shaft does, where RANGE
    -- is clear.
    pub moves_as_shaft_row : {then now : List Event} (old new : List ShaftSample) → ShaftShown then first old →
        ShaftShown now first (new ++ old) → AtMostTwo first old new → Undisturbed (axis_of r) first old new →
        (axis_of (row_since r now)).flags.range ≡ false →
        position_of (row_since r now).w0 ≡ position_of (row_since r then).w0 +ℤ (angle_at first (new ++ old) -ℤ angle_at first old)
    moves_as_shaft_row {then} {now} old new a b g p clear =
        place (axis_shown b)
        ∙ moves_as_shaft (axis_of r) (start_sound r live) kind depth first old new g p
        (sym (ap (λ (x : Axis). x.flags.range) (axis_shown b)) ∙ clear)
        ∙ rw (place (axis_shown a))
