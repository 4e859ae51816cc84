-- Where the sums of a sampled row begin: docs/RULES.md, "A port sample", Count.
use Rattle.std.specs.Prelude.{Ok}
use mathlib.Core.Path.{◌≡◌, refl, ap, ◌∙◌}
use mathlib.Core.Bool.{true}
use mathlib.Core.List.{List, [], ◌∷◌}
use Prim.Native.Nat.{ℕ}
use lib.IntN.{ℤ, pos}
use Rattle.position.specs.Position.{in_range, word_of}
use Rattle.position.proofs.PositionLaws.{position_word, word_holds}
use Rattle.axis.specs.Config.{good_config}
use Rattle.axis.specs.Row.{axis_of, row_of, fresh_at, Words}
use Rattle.axis.specs.declared.row.Axis.{Axis}
use Rattle.axis.specs.declared.config.Config.{Config}
use Rattle.axis.specs.declared.row.Row.{Row}
use Rattle.axis_sound.specs.Sound.{status_of}
use Rattle.axis_sound.specs.declared.Status.TheVariants.{Empty}
use Rattle.record.specs.Record.{read_as}
use Rattle.record_axis.specs.declared.saved.Saved.{Saved}
use Rattle.record_axis.proofs.LimitsLaws.{within_parts}
use Rattle.record.proofs.RecordLaws.{accepted_within}
use Rattle.row_calls.specs.Calls.{config_of}
use Rattle.row_calls.specs.Calls.{Setup}
use Rattle.row_calls.proofs.SetupLaws.{config_holds}
use Rattle.history_axis.specs.Tally.{given, clear, place_tally, doubles_tally}
use Rattle.runs.specs.Op.{changes, restore}
use Rattle.runs.specs.Event.{Event, asked, row_since}
use Rattle.history.specs.Phase.{Phase, begun, phase_of, after_event, after_change, after_call}
use Rattle.history.specs.Begun.{SumsBegin}
use Rattle.history.proofs.RowHistory.{empty_history}

-- A phase that begins with a row just set up, at any position.
module _ (r : Row) (h : List Event) (c : Config) (z : ℤ) (begins : phase_of r h ≡ begun (row_of (fresh_at c (word_of z)))) where
  sums_begin : good_config c.kind c.depth c.width c.turn ≡ true → in_range z ≡ true → SumsBegin r h z
  unfolding place_tally doubles_tally
  sums_begin good ok =
      let axis = (config_holds c (word_of z) good (word_holds z ok)).axis in
      record {
        place =
            ap (λ (p : Phase). place_tally (axis_of p.start) p.acts) begins
            ∙ ap (λ (x : Axis). place_tally x []) axis
            ∙ ap (λ (p : ℤ). given (clear p)) (position_word z ok);
        doubles = ap (λ (p : Phase). doubles_tally (axis_of p.start) p.acts) begins ∙ ap (λ (x : Axis). doubles_tally x []) axis;
      }

module _ {r : Row} (words : Words r) (h : List Event) (empty : status_of (row_since r h) ≡ Empty) where
  -- After a setup that is accepted, which is of an empty row, the sum begins at 0.
  pub sum_setup : (kind depth width turn : ℕ) → good_config kind depth width turn ≡ true →
      SumsBegin r (asked (changes (Setup kind depth width turn)) ∷ h) (pos 0)
  unfolding phase_of after_event after_call after_change word_of in_range
  sum_setup kind depth width turn good =
      sums_begin r _ (config_of kind depth width turn) (pos 0) (rw (empty_history words h empty, good)) good refl

  -- After a restore that is accepted it begins at the record's position.
  pub sum_restore : (bytes : List ℕ) (said : Saved) → read_as bytes ≡ Ok said →
      SumsBegin r (asked (restore bytes) ∷ h) said.position
  unfolding phase_of after_event after_call
  sum_restore bytes said e =
      let p = within_parts said (accepted_within bytes said e) in
      sums_begin r _ said.config said.position (rw (e, empty_history words h empty)) p.0 p.1
