-- The laws of BROKEN, EMPTY and KIND, each answered exactly where the row is so, and of what is answered past them, which is never
-- OCCUPIED.
use Rattle.std.specs.Prelude.{Ok, Err}
use Prim.Native.Nat.{ℕ}
use mathlib.Core.Path.{◌≡◌, refl, sym, ap, ◌∙◌}
use mathlib.Core.Logic.{◌↔◌, inl, inr}
use mathlib.Core.Bool.{false, cond}
use lib.Dec.{eqb, lit<, lit≤}
use borrow.Author.Tests.{eqb-false}
use lib.IntN.{ℤ}
use Rattle.position.specs.Position.{in_range}
use Rattle.refusal.specs.Refusal.{number_of}
use Rattle.refusal.specs.Order.{checked, After}
use Rattle.refusal.proofs.RefusalLaws.{after_not, after_either}
use Rattle.refusal.specs.declared.Refusal.{Refusal}
use Rattle.refusal.specs.declared.Refusal.TheVariants.{Broken as BROKEN, Empty as EMPTY, Kind as KIND}
use Rattle.refusal.specs.declared.Refusal.TheVariants.{Value as VALUE, Occupied as OCCUPIED}
use Rattle.axis.specs.Row.{axis_of, row_of}
use Rattle.axis_sound.specs.Sound.{status_of}
use Rattle.axis.specs.declared.row.Row.{Row}
use Rattle.axis_sound.specs.declared.Status.{Status}
use Rattle.axis_sound.specs.declared.Status.TheVariants.{Empty, Sampled, Counter, Broken}
use Rattle.row_calls.specs.Answer.{changed_number}
use Rattle.row_calls.specs.Change.{preset_axis, arm_axis, acknowledge_axis}
use Rattle.row_calls.specs.Calls.{by_status, place_row, preset_row, arm_row, acknowledge_row}
use Rattle.row_calls.specs.Reasons.{StatusReasons}
use Rattle.row_calls.proofs.StatusLaws.{Live, either_kind}

-- A number that is not another.
other : {B : Type 0} (m n : ℕ) → eqb m n ≡ false → m ≡ n → B
other m n e h = absurd (eqb-false m n e h)

-- Done, or a reason after OCCUPIED, and so after KIND.
unfoldable pub Past : ℕ → Type 0
Past n = After checked OCCUPIED n

-- What a call may answer on a sampled row or a counter: not BROKEN, EMPTY or OCCUPIED, and KIND exactly where the row is of the wrong kind.
record Later (n : ℕ) (wrong : Type 0) : Type 0 where
  full : (n ≡ number_of BROKEN → ⊥) × (n ≡ number_of EMPTY → ⊥) × (n ≡ number_of OCCUPIED → ⊥)
  kind : (n ≡ number_of KIND) ↔ wrong

-- The row is of the right kind.
right : {n : ℕ} {wrong : Type 0} → Past n → (wrong → ⊥) → Later n wrong
unfolding Past
right p never = record {
  full = (
    after_not checked OCCUPIED BROKEN (lit≤ tt) p,
    after_not checked OCCUPIED EMPTY (lit≤ tt) p,
    after_not checked OCCUPIED OCCUPIED (lit≤ tt) p,
  );
  kind = (λ e. absurd (after_not checked OCCUPIED KIND (lit≤ tt) p e), λ w. absurd (never w));
}

-- The row is of the wrong one.
wrongly : {wrong : Type 0} → wrong → Later (number_of KIND) wrong
wrongly w = record {
  full = (
    λ e. other (number_of KIND) (number_of BROKEN) refl e,
    λ e. other (number_of KIND) (number_of EMPTY) refl e,
    λ e. other (number_of KIND) (number_of OCCUPIED) refl e,
  );
  kind = (λ _. w, λ _. refl);
}

-- Statuses by a number, which tells them apart.
rank : Status → ℕ
rank Broken = 0
rank Empty = 1
rank Sampled = 2
rank Counter = 3

apart : (s t : Status) → eqb (rank s) (rank t) ≡ false → s ≡ t → ⊥
apart s t e h = eqb-false (rank s) (rank t) e (ap rank h)

module _ {A : Type 0} (number : A → ℕ) (refuse : Refusal → A) (same : (e : Refusal) → number (refuse e) ≡ number_of e) where
  -- By the row's status: BROKEN, EMPTY, and past these what the call answers on the two kinds.
  by_reasons : (wrong : Status → Type 0) → (wrong Broken → ⊥) → (wrong Empty → ⊥) → (sampled counter : A) →
      Later (number sampled) (wrong Sampled) →
      Later (number counter) (wrong Counter) → (s : Status) → StatusReasons (number (by_status refuse sampled counter s)) s (wrong s)
  unfolding rank
  by_reasons wrong b e sampled counter onS onC Broken = record {
    broken = (λ _. refl, λ _. same BROKEN);
    empty = (λ h. other (number_of BROKEN) (number_of EMPTY) refl (sym (same BROKEN) ∙ h), λ h. absurd (apart Broken Empty refl h));
    kind = (λ h. other (number_of BROKEN) (number_of KIND) refl (sym (same BROKEN) ∙ h), λ w. absurd (b w));
    unoccupied = λ h. other (number_of BROKEN) (number_of OCCUPIED) refl (sym (same BROKEN) ∙ h);
  }
  by_reasons wrong b e sampled counter onS onC Empty = record {
    broken = (λ h. other (number_of EMPTY) (number_of BROKEN) refl (sym (same EMPTY) ∙ h), λ h. absurd (apart Empty Broken refl h));
    empty = (λ _. refl, λ _. same EMPTY);
    kind = (λ h. other (number_of EMPTY) (number_of KIND) refl (sym (same EMPTY) ∙ h), λ w. absurd (e w));
    unoccupied = λ h. other (number_of EMPTY) (number_of OCCUPIED) refl (sym (same EMPTY) ∙ h);
  }
  by_reasons wrong b e sampled counter onS onC Sampled = record {
    broken = (λ h. absurd (onS.full.0 h), λ h. absurd (apart Sampled Broken refl h));
    empty = (λ h. absurd (onS.full.1 h), λ h. absurd (apart Sampled Empty refl h));
    kind = onS.kind;
    unoccupied = onS.full.2;
  }
  by_reasons wrong b e sampled counter onS onC Counter = record {
    broken = (λ h. absurd (onC.full.0 h), λ h. absurd (apart Counter Broken refl h));
    empty = (λ h. absurd (onC.full.1 h), λ h. absurd (apart Counter Empty refl h));
    kind = onC.kind;
    unoccupied = onC.full.2;
  }

  -- A call on both kinds.
  pub both_kinds : (sampled counter : A) → Past (number sampled) → Past (number counter) → (s : Status) →
      StatusReasons (number (by_status refuse sampled counter s)) s ⊥
  both_kinds sampled counter onS onC = by_reasons (λ _. ⊥) (λ w. w) (λ w. w) sampled counter (right onS (λ w. w)) (right onC (λ w. w))

  -- A call on sampled rows only.
  pub sampled_only : (sampled : A) → Past (number sampled) → (s : Status) →
      StatusReasons (number (by_status refuse sampled (refuse KIND) s)) s (s ≡ Counter)
  unfolding rank
  sampled_only sampled onS =
      by_reasons (λ s. s ≡ Counter) (apart Broken Counter refl) (apart Empty Counter refl) sampled (refuse KIND)
      (right onS (apart Sampled Counter refl)) (rw (same KIND) (wrongly refl))

  -- A call on counters only.
  pub counters_only : (counter : A) → Past (number counter) → (s : Status) →
      StatusReasons (number (by_status refuse (refuse KIND) counter s)) s (s ≡ Sampled)
  unfolding rank
  counters_only counter onC =
      by_reasons (λ s. s ≡ Sampled) (apart Broken Sampled refl) (apart Empty Sampled refl) (refuse KIND) counter
      (rw (same KIND) (wrongly refl)) (right onC (apart Counter Sampled refl))

-- ---- what each call may answer past OCCUPIED

pub place_past : (p : ℤ) (r : Row) → Past (changed_number (place_row p r))
unfolding Past place_row
place_past p r = after_either checked changed_number OCCUPIED (in_range p) _ _ (inl refl) (inr (lit< tt))

-- ---- each call: BROKEN exactly on a broken row, EMPTY exactly on an empty one, and KIND exactly on one of the kind that the call does not
-- take

-- Preset takes both kinds.
pub preset_reasons : (p : ℤ) (r : Row) → StatusReasons (changed_number (preset_row p r)) (status_of r) ⊥
unfolding preset_row
preset_reasons p r = both_kinds changed_number Err (λ e. refl) (place_row p r) (place_row p r) (place_past p r) (place_past p r) (status_of r)

-- Arm takes sampled rows.
pub arm_reasons : (r : Row) → StatusReasons (changed_number (arm_row r)) (status_of r) (status_of r ≡ Counter)
unfolding arm_row Past
arm_reasons r = sampled_only changed_number Err (λ e. refl) (Ok (row_of (arm_axis (axis_of r)))) (inl refl) (status_of r)

-- Acknowledge takes sampled rows.
pub acknowledge_reasons : (r : Row) → StatusReasons (changed_number (acknowledge_row r)) (status_of r) (status_of r ≡ Counter)
unfolding acknowledge_row Past
acknowledge_reasons r = sampled_only changed_number Err (λ e. refl) (Ok (row_of (acknowledge_axis (axis_of r)))) (inl refl) (status_of r)

-- ---- what each call does on the rows that it takes

-- On a sampled row and on a counter a preset within the range is accepted, and any other is VALUE.
pub preset_is : (p : ℤ) (r : Row) → Live r → preset_row p r ≡ cond (in_range p) (Ok (row_of (preset_axis p (axis_of r)))) (Err VALUE)
unfolding preset_row place_row
preset_is p r l = either_kind Err (place_row p r) r l

-- On a sampled row arm is accepted.
pub arm_is : (r : Row) → status_of r ≡ Sampled → arm_row r ≡ Ok (row_of (arm_axis (axis_of r)))
unfolding arm_row
arm_is r e = rw e

-- On a sampled row acknowledge is accepted.
pub acknowledge_is : (r : Row) → status_of r ≡ Sampled → acknowledge_row r ≡ Ok (row_of (acknowledge_axis (axis_of r)))
unfolding acknowledge_row
acknowledge_is r e = rw e
