-- The five lazy programs of docs/RULES.md, "Programs that would slip past a lazy claim", and what shuts each out. Position always 0 is shut
-- out by CountIsRight.position_told and ReadingsHold.readings_hold, an invented doubles number by CountIsRight.doubles_told.
use Rattle.std.specs.Prelude.{Err}
use mathlib.Core.Path.{◌≡◌, sym, ap, ◌∙◌}
use mathlib.Core.Logic.{◌≢◌}
use mathlib.Core.Bool.{true, false}
use mathlib.Core.List.{List, [], ◌∷◌, ◌++◌}
use Prim.Native.Nat.{ℕ, ◌<◌}
use native.Mathlib.Omega.{arith}
use lib.IntN.{ℤ, pos, ◌+ℤ◌}
use lib.ListN.{length}
use Rattle.integers.specs.Integer.{plus, minus}
use Rattle.integers.proofs.Balance.{bal_add}
use Rattle.refusal.specs.declared.Refusal.{Refusal}
use Rattle.position.specs.Position.{position_of}
use Rattle.axis.specs.Row.{axis_of}
use Rattle.axis_sound.specs.Sound.{status_of}
use Rattle.axis.specs.declared.row.Row.{Row}
use Rattle.axis_sound.specs.declared.Status.TheVariants.{Sampled}
use Rattle.axis_filter.specs.Lines.{raw_of}
use Rattle.axis_decode.specs.Decode.{entry, worth}
use Rattle.axis_decode.specs.declared.Move.TheVariants.{Forward}
use Rattle.table_rows.specs.Table.{axes_in, row_at, AllWords}
use Rattle.table_port.specs.Port.{nibble, sampled_answer}
use Rattle.table_port.proofs.PortLaws.{sample_refused}
use Rattle.history_axis.specs.Acts.{sampled}
use Rattle.history_axis.specs.Levels.{primed_at}
use Rattle.history_axis.specs.Entries.{code_at}
use Rattle.history_axis.specs.Homing.{homes_at}
use Rattle.history.specs.Phase.{start_axis, acts_since}
use Rattle.history.proofs.SampledHistory.{later_sample_row}
use Rattle.runs.specs.Run.{Call, port, table_run}
use Rattle.promises.specs.Own.{own}
use Rattle.promises.proofs.CountIsRight.{first_words, row_is, status_is, next_is}

-- Refusing everything: a table of a legal length is sampled, never refused.
pub not_everything_refused : (t : List ℕ) (word : ℕ) (e : Refusal) → axes_in (length t) ≢ 0 → sampled_answer t word ≡ Err e → ⊥
not_everything_refused t word e legal q = legal ((sample_refused t word e).0 q).0

one_on : (p : ℤ) → p ≡ p +ℤ pos 1 → ⊥
one_on p e = omega (arith, bal_add p (pos 1), ap plus e, ap minus e)

module _ (t : List ℕ) (k : ℕ) (words : AllWords t) (h : k < axes_in (length t)) (cs : List Call) (word : ℕ)
    (live : status_of (row_at (table_run t cs) k) ≡ Sampled)
    (primed : primed_at (start_axis (row_at t k) (own k cs)) (acts_since (row_at t k) (own k cs)) ≡ true)
    (stays : homes_at (start_axis (row_at t k) (own k cs)) (raw_of (nibble word k)) (acts_since (row_at t k) (own k cs)) ≡ false)
    (clear : (axis_of (row_at (table_run t (cs ++ (port word ∷ []))) k)).flags.range ≡ false) where
  -- A first sample that uses up the run while later ones idle: whatever came before, a sample on a primed row that neither homes nor leaves
  -- RANGE set moves its position by the mode's entry between the filtered levels before it and after it.
  pub later_sample_counts :
      position_of (row_at (table_run t (cs ++ (port word ∷ []))) k).w0
      ≡ position_of (row_at (table_run t cs) k).w0 +ℤ worth
      (entry (start_axis (row_at t k) (own k cs)).config.kind
      (code_at (start_axis (row_at t k) (own k cs)) (acts_since (row_at t k) (own k cs)))
      (code_at (start_axis (row_at t k) (own k cs)) (sampled (raw_of (nibble word k)) ∷ acts_since (row_at t k) (own k cs))))
  later_sample_counts =
      let now = next_is t k words h cs word in
      ap (λ (r : Row). position_of r.w0) now
      ∙ later_sample_row (first_words t k words h cs) (own k cs) (status_is t k words h cs live) (nibble word k) primed stays
      (sym (ap (λ (r : Row). (axis_of r).flags.range) now) ∙ clear)
      ∙ rw (row_is t k words h cs)

  -- A sample that changes nothing: where that entry is +, the row's position is another one after it.
  pub sample_changes_something :
      entry (start_axis (row_at t k) (own k cs)).config.kind
      (code_at (start_axis (row_at t k) (own k cs)) (acts_since (row_at t k) (own k cs)))
      (code_at (start_axis (row_at t k) (own k cs)) (sampled (raw_of (nibble word k)) ∷ acts_since (row_at t k) (own k cs))) ≡ Forward →
      position_of (row_at (table_run t (cs ++ (port word ∷ []))) k).w0 ≢ position_of (row_at (table_run t cs) k).w0
  unfolding worth
  sample_changes_something e same = one_on _ (sym same ∙ later_sample_counts ∙ rw e)
