-- A shaft with an index line on row k of any run, x4 at depth 1: homed over an edge, forward or backward, it is counted from that edge's
-- angle, and no check a whole number of turns away sets INDEX.
use Prim.Native.Nat.{ℕ, ◌<◌}
use mathlib.Core.Path.{◌≡◌, refl, sym, ap, ◌∙◌, subst}
use mathlib.Core.Logic.{◌≢◌}
use mathlib.Core.Bool.{Bool, false, ◌&&◌}
use mathlib.Core.List.{List, [], ◌∷◌, ◌++◌}
use lib.IntN.{ℤ, ◌-ℤ◌}
use lib.ListN.{length}
use Rattle.position.specs.Position.{position_of}
use Rattle.axis.specs.Kind.{X4}
use Rattle.axis.specs.Row.{axis_of}
use Rattle.axis.specs.declared.row.Row.{Row}
use Rattle.axis_sound.specs.Sound.{status_of}
use Rattle.axis_sound.specs.declared.Status.TheVariants.{Sampled}
use Rattle.axis_filter.specs.Lines.{raw_of}
use Rattle.table_rows.specs.Table.{axes_in, row_at, AllWords}
use Rattle.table_port.specs.Port.{nibble}
use Rattle.history_axis.specs.Reference.{shown, EdgeAngle, Zero, set, homed, zero_angle, Near}
use Rattle.runs.specs.Op.{Op, changes, restore, reading, looks}
use Rattle.runs.specs.Event.{Event, bits, asked, row_since}
use Rattle.runs.specs.Run.{Call, port, names, table_run}
use Rattle.history.specs.Lasting.{erases}
use Rattle.history.specs.Reference.{OnShaft, zero_after}
use Rattle.history.proofs.ReferenceHistory.{first_row, position_follows_row, call_row, edge_bit_row, home_row, unarmed_row}
use Rattle.history.proofs.ReferenceHistory.{passed_row, homed_edge_row, check_row}
use Rattle.promises.specs.Own.{seen, own}
use Rattle.promises.specs.Edge.{axis_after, Following, NextSample}
use Rattle.promises.proofs.CountIsRight.{first_words, row_is, status_is, own_next, own_named, own_other, next_is, index_is}

module _ (t : List ℕ) (k : ℕ) (words : AllWords t) (h : k < axes_in (length t)) (z : ℤ → Bool) (cs : List Call) where
  now : row_at (table_run t cs) k ≡ row_since (row_at t k) (own k cs)
  now = row_is t k words h cs

  -- What holds of the row alone with a sample more holds of the run with it.
  onto_run : (word : ℕ) {c : ℤ} {o : Zero} → OnShaft z (row_at t k) (bits (nibble word k) ∷ own k cs) c o →
      Following z t k (cs ++ (port word ∷ [])) c o
  onto_run word {c} {o} on = subst (λ (g : List Event). OnShaft z (row_at t k) g c o) (sym (own_next k cs word)) on

  -- A row follows the shaft from any sample on that primes it or finds it not armed.
  pub edge_begins : status_of (row_at (table_run t cs) k) ≡ Sampled → (axis_after t k cs).config.kind ≡ X4 →
      (axis_after t k cs).config.depth ≡ 1 →
      ((axis_after t k cs).flags.primed && (axis_after t k cs).flags.armed) ≡ false → (word : ℕ) (b : ℤ) → raw_of (nibble word k) ≡ shown z b →
      Following z t k (cs ++ (port word ∷ [])) b (set (b -ℤ position_of (axis_after t k (cs ++ (port word ∷ []))).word))
  edge_begins live kind depth free word b levels =
      rw (next_is t k words h cs word)
      (onto_run word (first_row (first_words t k words h cs) (own k cs) (status_is t k words h cs live)
      (sym (ap (λ (r : Row). (axis_of r).config.kind) now) ∙ kind) (sym (ap (λ (r : Row). (axis_of r).config.depth) now) ∙ depth)
      (nibble word k) z b levels (sym (ap (λ (r : Row). (axis_of r).flags.primed && (axis_of r).flags.armed) now) ∙ free)))

  -- Since a home the zero is an edge's angle.
  pub edge_homed : {b a : ℤ} → Following z t k cs b (homed a) → EdgeAngle z a
  edge_homed on = homed_edge_row (first_words t k words h cs) on

  module _ {b : ℤ} {o : Zero} (on : Following z t k cs b o) where
    -- While RANGE is clear the position is the shaft's angle less its zero: since a home, the angle of the edge that was homed over.
    pub edge_position : (axis_after t k cs).flags.range ≡ false → position_of (axis_after t k cs).word ≡ b -ℤ zero_angle o
    edge_position clear =
        ap (λ (r : Row). position_of r.w0) now
        ∙ position_follows_row (first_words t k words h cs) on (sym (ap (λ (r : Row). (axis_of r).flags.range) now) ∙ clear)

    -- A call on the axis that is no erase keeps it on the shaft, and only an accepted preset moves its zero; one on another axis
    -- changes nothing.
    pub edge_call : (op : Op) → erases (asked op) ≡ false → Following z t k (cs ++ (names k op ∷ [])) b (zero_after op b o)
    unfolding seen erases zero_after
    edge_call op e =
        subst (λ (g : List Event). OnShaft z (row_at t k) g b (zero_after op b o)) (sym (own_named k cs op))
        (rw (seen_zero op) at (call_row (first_words t k words h cs) on (seen op) (seen_erases op ∙ e)))
      where
        seen_erases : (op : Op) → erases (asked (seen op)) ≡ erases (asked op)
        seen_erases (changes c) = refl
        seen_erases (restore bytes) = refl
        seen_erases (reading x) = refl
        seen_erases (looks l) = refl

        seen_zero : (op : Op) → zero_after (seen op) b o ≡ zero_after op b o
        seen_zero (changes c) = refl
        seen_zero (restore bytes) = refl
        seen_zero (reading x) = refl
        seen_zero (looks l) = refl

    pub edge_other : (j : ℕ) (op : Op) → j ≢ k → Following z t k (cs ++ (names j op ∷ [])) b o
    edge_other j op other = subst (λ (g : List Event). OnShaft z (row_at t k) g b o) (sym (own_other k j cs op other)) on

    -- What the next sample does.
    pub edge_next : (word : ℕ) (c : ℤ) → raw_of (nibble word k) ≡ shown z c → Near b c → NextSample z t k cs b o word c
    edge_next word c levels near =
        let w = first_words t k words h cs in
        let n = nibble word k in
        let next = next_is t k words h cs word in
        record {
          bit = λ m e. rw (index_is t k words h cs word m e) (edge_bit_row w on n c levels near);
          home = λ armed a e v.
              let d = home_row w on n c levels near (sym (ap (λ (r : Row). (axis_of r).flags.armed) now) ∙ armed) e v in
              record { position = rw next d.0; shows = rw next d.1; clear = rw next d.2; following = onto_run word d.3 };
          unarmed = λ free. onto_run word (unarmed_row w on n c levels near (sym (ap (λ (r : Row). (axis_of r).flags.armed) now) ∙ free));
          passed = λ none. onto_run word (passed_row w on n c levels near none);
          check = λ a same whole clear.
              ap (λ (r : Row). (axis_of r).flags.index) next
              ∙ check_row w (subst (λ (p : Zero). OnShaft z (row_at t k) (own k cs) b p) same on) n c levels near
              (λ e l. rw (ap (λ (r : Row). (axis_of r).config.turn) now) at (whole e l))
              (sym (ap (λ (r : Row). (axis_of r).flags.range) next) ∙ clear)
              ∙ sym (ap (λ (r : Row). (axis_of r).flags.index) now);
        }
