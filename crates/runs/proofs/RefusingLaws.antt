-- When a call that names one axis is refused, for all calls at once, and that a refusal changes nothing: docs/RULES.md, "Reasons for saying
-- no".
use Rattle.std.specs.Prelude.{Result, Ok, Err, ℤ, ⊤}
use Prim.Native.Nat.{ℕ, ◌≤◌, ◌<◌}
use native.Mathlib.Omega.{arith}
use mathlib.Core.Path.{◌≡◌, refl, sym, ap, ◌∙◌}
use mathlib.Core.Logic.{◌↔◌, ◌≢◌, ◌⊎◌, inl, inr}
use mathlib.Core.Bool.{true, false, true≢false}
use mathlib.Core.List.{List}
use borrow.Author.Tests.{eqb-true, eqb-false, ltb-true, ltb-false}
use lib.Dec.{eqb, ltb, lit<, lit≤}
use lib.ListN.{length}
use Rattle.integers.proofs.Balance.{Decided, yes, no, test}
use Rattle.refusal.specs.Refusal.{number_of}
use Rattle.refusal.specs.Order.{checked, place_in, After}
use Rattle.refusal.specs.declared.Refusal.{Refusal}
use Rattle.refusal.specs.declared.Refusal.TheVariants.{Axis, Empty as EMPTY, Kind as KIND, Broken as BROKEN, Occupied as OCCUPIED}
use Rattle.refusal.proofs.RefusalLaws.{after_not, after_sooner}
use Rattle.reckon.specs.Reckoned.{refusal_in}
use Rattle.axis.specs.declared.row.Row.{Row}
use Rattle.axis_sound.specs.Sound.{is_empty, status_of, passes}
use Rattle.axis_sound.proofs.SoundLaws.{status_exactly}
use Rattle.axis_sound.specs.declared.Status.{Status}
use Rattle.axis_sound.specs.declared.Status.TheVariants.{Empty, Sampled, Counter, Broken}
use Rattle.record.specs.Answer.{written_number}
use Rattle.row_calls.specs.Answer.{done_of, done_number}
use Rattle.row_calls.specs.Calls.{change_row, setup_row, erase_row}
use Rattle.row_calls.specs.Reasons.{StatusReasons}
use Rattle.row_calls.specs.Calls.{Setup, Erase, Preset, Arm, Acknowledge}
use Rattle.row_calls.proofs.ReasonLaws.{preset_reasons, arm_reasons, acknowledge_reasons}
use Rattle.row_calls.proofs.SetupLaws.{setup_occupied}
use Rattle.row_view.specs.View.{view_number, view_row}
use Rattle.row_view.proofs.ViewLaws.{view_reasons}
use Rattle.row_counter.specs.Reading.{reading_row, stored_row, read_row}
use Rattle.row_counter.proofs.ReadingLaws.{reading_reasons}
use Rattle.row_speed.specs.Speed.{speed_row}
use Rattle.row_speed.proofs.SpeedLaws.{speed_reasons}
use Rattle.speed.specs.Speed.{speed_refusal}
use Rattle.row_saving.specs.Saving.{save_row, saved_in, restore_row}
use Rattle.row_saving.proofs.SaveLaws.{save_reasons, restore_occupied}
use Rattle.table_rows.specs.Table.{axes_in, row_at}
use Rattle.table_rows.specs.Located.{located, on_found}
use Rattle.table_change.specs.Making.{table_after}
use Rattle.table_change.specs.Order.{Ordered}
use Rattle.table_change.proofs.OrderLaws.{in_order, setup_late, erase_late, preset_late, arm_late, acknowledge_late}
use Rattle.table.proofs.OrderLaws.{restore_late, view_late, reading_late, speed_late, save_late}
use Rattle.runs.specs.Told.{refused, told_done, told_view, told_number, told_speed, told_bytes}
use Rattle.runs.specs.Op.{Op, view, speed, save, changes, restore, reading, looks, look_row, rule_of, answer_of}
use Rattle.runs.specs.Run.{table_by, answer_in}
use Rattle.runs.specs.Refusing.{refusal_told, needs_axis, wants_empty, WrongKind, Takes, ByRow, RefusesExactly}
use Rattle.runs.proofs.CallLaws.{look_keeps}
use Rattle.runs.proofs.AnsweringLaws.{answers}
use Rattle.speed.specs.declared.Quotient.{Quotient}
use Rattle.row_view.specs.declared.answer.View.{View}

-- ---- the number of what is told is that of the answer

done_number_lem : (a : Result ⊤ Refusal) → refusal_told (told_done a) ≡ done_number a
unfolding refusal_told
done_number_lem (Ok _) = refl
done_number_lem (Err e) = refl

view_number_lem : (a : Result View Refusal) → refusal_told (told_view a) ≡ view_number a
unfolding refusal_told
view_number_lem (Ok v) = refl
view_number_lem (Err e) = refl

reckoned_number : (a : Result ℤ Refusal) → refusal_told (told_number a) ≡ refusal_in a
unfolding refusal_told
reckoned_number (Ok z) = refl
reckoned_number (Err e) = refl

speed_number : (a : Result Quotient Refusal) → refusal_told (told_speed a) ≡ speed_refusal a
unfolding refusal_told
speed_number (Ok q) = refl
speed_number (Err e) = refl

bytes_number : (a : Result ℕ Refusal) (b : List ℕ) → refusal_told (told_bytes a b) ≡ written_number a
unfolding refusal_told
bytes_number (Ok n) b = refl
bytes_number (Err e) b = refl

-- ---- on a row

-- A call that asks for no axis is done, or refused for a reason after KIND.
any_late : (o : Op) → needs_axis o ≡ false → (r : Row) → After checked KIND (refusal_told (answer_of o r))
unfolding needs_axis answer_of
any_late (changes (Setup kind depth width turn)) q r =
    rw (done_number_lem (done_of (setup_row kind depth width turn r))) (setup_late kind depth width turn r)
any_late (changes Erase) q r = rw (done_number_lem (done_of (erase_row r))) (erase_late r)
any_late (changes (Preset p)) q r = absurd (true≢false q)
any_late (changes Arm) q r = absurd (true≢false q)
any_late (changes Acknowledge) q r = absurd (true≢false q)
any_late (restore bytes) q r = rw (done_number_lem (done_of (restore_row bytes r))) (restore_late bytes r)
any_late (reading x) q r = absurd (true≢false q)
any_late (looks l) q r = absurd (true≢false q)

-- Any other is BROKEN, EMPTY and KIND exactly where the row is so, and never OCCUPIED.
row_reasons : (o : Op) → needs_axis o ≡ true → (r : Row) → StatusReasons (refusal_told (answer_of o r)) (status_of r) (WrongKind o (status_of r))
unfolding needs_axis answer_of look_row WrongKind
row_reasons (changes (Setup kind depth width turn)) q r = absurd (true≢false (sym q))
row_reasons (changes Erase) q r = absurd (true≢false (sym q))
row_reasons (changes (Preset p)) q r = rw (done_number_lem (done_of (change_row (Preset p) r))) (preset_reasons p r)
row_reasons (changes Arm) q r = rw (done_number_lem (done_of (change_row Arm r))) (arm_reasons r)
row_reasons (changes Acknowledge) q r = rw (done_number_lem (done_of (change_row Acknowledge r))) (acknowledge_reasons r)
row_reasons (restore bytes) q r = absurd (true≢false (sym q))
row_reasons (reading x) q r = rw (reckoned_number (reading_row x r)) (reading_reasons x r)
row_reasons (looks view) q r = rw (view_number_lem (view_row r)) (view_reasons r)
row_reasons (looks (speed rate)) q r = rw (speed_number (speed_row rate r)) (speed_reasons rate r)
row_reasons (looks (save b)) q r = rw (bytes_number (save_row (length b) r) (saved_in b r)) (save_reasons (length b) r)

-- No row is of the wrong kind for one that asks for no axis.
any_kind : (o : Op) → needs_axis o ≡ false → (s : Status) → WrongKind o s → ⊥
unfolding needs_axis WrongKind
any_kind (changes (Setup kind depth width turn)) q s w = w
any_kind (changes Erase) q s w = w
any_kind (changes (Preset p)) q s w = w
any_kind (changes Arm) q s w = true≢false q
any_kind (changes Acknowledge) q s w = true≢false q
any_kind (restore bytes) q s w = w
any_kind (reading x) q s w = true≢false q
any_kind (looks l) q s w = true≢false q

module _ (r : Row) where
  -- What a call never says it says of no row, and where it does not want an empty one it need not.
  never : {n : ℕ} → (n ≡ number_of OCCUPIED → ⊥) → (n ≡ number_of OCCUPIED) ↔ ((false ≡ true) × (status_of r ≢ Empty))
  never not-said = (λ e. absurd (not-said e), λ w. absurd (true≢false (sym w.0)))

  -- OCCUPIED is for a call that wants an empty row, exactly on one that is not empty.
  row_occupied : (o : Op) → (refusal_told (answer_of o r) ≡ number_of OCCUPIED) ↔ ((wants_empty o ≡ true) × (status_of r ≢ Empty))
  unfolding needs_axis wants_empty answer_of erase_row
  row_occupied (changes (Setup kind depth width turn)) =
      let says = setup_occupied kind depth width turn r in
      rw (done_number_lem (done_of (setup_row kind depth width turn r))) (λ e. (refl, says.0 e), λ w. says.1 w.1)
  row_occupied (changes Erase) = rw (done_number_lem (done_of (erase_row r))) (never (λ e. omega arith))
  row_occupied (changes (Preset p)) = never (row_reasons (changes (Preset p)) refl r).unoccupied
  row_occupied (changes Arm) = never (row_reasons (changes Arm) refl r).unoccupied
  row_occupied (changes Acknowledge) = never (row_reasons (changes Acknowledge) refl r).unoccupied
  row_occupied (restore bytes) = rw (done_number_lem (done_of (restore_row bytes r))) (restore_occupied bytes r)
  row_occupied (reading x) = never (row_reasons (reading x) refl r).unoccupied
  row_occupied (looks l) = never (row_reasons (looks l) refl r).unoccupied

-- Every call is done on a row, or refused for a reason after AXIS.
row_late : (o : Op) (r : Row) → After checked Axis (refusal_told (answer_of o r))
unfolding needs_axis answer_of look_row
row_late (changes (Setup kind depth width turn)) r =
    after_sooner checked KIND Axis (lit≤ tt) (any_late (changes (Setup kind depth width turn)) refl r)
row_late (changes Erase) r = after_sooner checked KIND Axis (lit≤ tt) (any_late (changes Erase) refl r)
row_late (changes (Preset p)) r = rw (done_number_lem (done_of (change_row (Preset p) r))) (preset_late p r)
row_late (changes Arm) r = rw (done_number_lem (done_of (change_row Arm r))) (arm_late r)
row_late (changes Acknowledge) r = rw (done_number_lem (done_of (change_row Acknowledge r))) (acknowledge_late r)
row_late (restore bytes) r = after_sooner checked KIND Axis (lit≤ tt) (any_late (restore bytes) refl r)
row_late (reading x) r = rw (reckoned_number (reading_row x r)) (reading_late x r)
row_late (looks view) r = rw (view_number_lem (view_row r)) (view_late r)
row_late (looks (speed rate)) r = rw (speed_number (speed_row rate r)) (speed_late rate r)
row_late (looks (save b)) r = rw (bytes_number (save_row (length b) r) (saved_in b r)) (save_late (length b) r)

-- ---- no row is left over

-- Where the row's own state gives no reason, the call takes it.
taken : (o : Op) (r : Row) → (ByRow (refusal_told (answer_of o r)) → ⊥) → Takes o (status_of r)
unfolding Takes passes
taken o r free = (λ q. live q (status_of r) refl, λ w. vacant w (test (is_empty r)))
  where
    right : needs_axis o ≡ true → WrongKind o (status_of r) → ⊥
    right q w = free (inr (inl ((row_reasons o q r).kind.1 w)))

    live : needs_axis o ≡ true → (s : Status) → status_of r ≡ s →
        ((status_of r ≡ Sampled) ⊎ (status_of r ≡ Counter)) × (WrongKind o (status_of r) → ⊥)
    live q Broken e = absurd (free (inl (inl ((row_reasons o q r).broken.1 e))))
    live q Empty e = absurd (free (inl (inr ((row_reasons o q r).empty.1 e))))
    live q Sampled e = (inl e, right q)
    live q Counter e = (inr e, right q)

    vacant : wants_empty o ≡ true → Decided (is_empty r) → status_of r ≡ Empty
    vacant w (yes e) = (status_exactly Empty r).1 e
    vacant w (no e) = absurd (free (inr (inr ((row_occupied r o).1 (w, λ z. true≢false (sym ((status_exactly Empty r).0 z) ∙ e))))))

-- ---- on a table

module _ (o : Op) (t : List ℕ) (k : ℕ) where
  ordered : Ordered refusal_told (answer_of o) t k (answer_in t k o)
  unfolding answer_in refusal_told
  ordered = in_order refusal_told refused (λ e. refl) (answer_of o) t k (row_late o)

  -- A reason that is neither LENGTH nor AXIS is given on a row that is there, by the row's own rule.
  on_row : (n : ℕ) → 2 < n → refusal_told (answer_in t k o) ≡ n → (k < axes_in (length t)) × (refusal_told (answer_of o (row_at t k)) ≡ n)
  on_row n h e = go (test (ltb k (axes_in (length t)))) (test (eqb (axes_in (length t)) 0))
    where
      go : Decided (ltb k (axes_in (length t))) → Decided (eqb (axes_in (length t)) 0) →
          (k < axes_in (length t)) × (refusal_told (answer_of o (row_at t k)) ≡ n)
      go (yes l) z = let there = ltb-true _ _ l in (there, ap refusal_told (sym (ordered.own there)) ∙ e)
      go (no l) (yes z) = absurd (omega (arith, ordered.slice.1 (eqb-true _ _ z)))
      go (no l) (no z) = absurd (omega (arith, ordered.named.1 (eqb-false _ _ z, ltb-false _ _ l)))

  -- BROKEN and EMPTY, by what the laws of a row say of them.
  by_status_lem : (f : Refusal) (s : Status) → 2 < number_of f → place_in checked (number_of f) ≤ place_in checked (number_of KIND) →
      ((q : needs_axis o ≡ true) → (refusal_told (answer_of o (row_at t k)) ≡ number_of f) ↔ (status_of (row_at t k) ≡ s)) →
      (refusal_told (answer_in t k o) ≡ number_of f)
      ↔ ((k < axes_in (length t)) × (needs_axis o ≡ true) × (status_of (row_at t k) ≡ s))
  by_status_lem f s h sooner line = (
    λ e. let there = on_row (number_of f) h e in go (test (needs_axis o)) there,
    λ w. ap refusal_told (ordered.own w.0) ∙ (line w.1).1 w.2,
  )
    where
      go : Decided (needs_axis o) → (k < axes_in (length t)) × (refusal_told (answer_of o (row_at t k)) ≡ number_of f) →
          (k < axes_in (length t)) × (needs_axis o ≡ true) × (status_of (row_at t k) ≡ s)
      go (no q) w = absurd (after_not checked KIND f sooner (any_late o q (row_at t k)) w.1)
      go (yes q) w = (w.0, q, (line q).0 w.1)

  -- Each of the reasons 1 to 5 and 13 exactly when its line says.
  pub refuses_exactly : RefusesExactly o t k (answer_in t k o)
  refuses_exactly = record {
    slice = ordered.slice;
    axis = ordered.named;
    broken = by_status_lem BROKEN Broken (lit< tt) (lit≤ tt) (λ q. (row_reasons o q (row_at t k)).broken);
    empty = by_status_lem EMPTY Empty (lit< tt) (lit≤ tt) (λ q. (row_reasons o q (row_at t k)).empty);
    kind = (
      λ e. let w = on_row 5 (lit< tt) e in (w.0, wrong (test (needs_axis o)) w.1),
      λ w. ap refusal_told (ordered.own w.0) ∙ rightly (test (needs_axis o)) w.1,
    );
    occupied = (
      λ e. let w = on_row 13 (lit< tt) e in let q = (row_occupied (row_at t k) o).0 w.1 in (w.0, q.0, q.1),
      λ w. ap refusal_told (ordered.own w.0) ∙ (row_occupied (row_at t k) o).1 (w.1, w.2),
    );
    own = λ h takes. rw (ordered.own h) (answers o (row_at t k) takes);
    all = λ h. rw (ordered.own h) (taken o (row_at t k));
  }
    where
      wrong : Decided (needs_axis o) → refusal_told (answer_of o (row_at t k)) ≡ 5 → WrongKind o (status_of (row_at t k))
      wrong (no q) e = absurd (after_not checked KIND KIND (lit≤ tt) (any_late o q (row_at t k)) e)
      wrong (yes q) e = (row_reasons o q (row_at t k)).kind.0 e

      rightly : Decided (needs_axis o) → WrongKind o (status_of (row_at t k)) → refusal_told (answer_of o (row_at t k)) ≡ 5
      rightly (no q) w = absurd (any_kind o q (status_of (row_at t k)) w)
      rightly (yes q) w = (row_reasons o q (row_at t k)).kind.1 w

-- ---- a refusal changes nothing

kept_table : (t : List ℕ) (k : ℕ) (c : Result Row Refusal) (e : Refusal) → told_done (done_of c) ≡ refused e → table_after t k c ≡ t
unfolding table_after
kept_table t k (Err x) e q = refl
kept_table t k (Ok r) e q = absurd (let z : ◌≡◌ {A = ℕ} 0 1 = cc in omega arith)

unread_table : (t : List ℕ) (k : ℕ) (r : Row) (a : Result ℤ Refusal) (e : Refusal) → told_number a ≡ refused e → table_after t k (stored_row r a) ≡ t
unfolding table_after stored_row
unread_table t k r (Err x) e q = refl
unread_table t k r (Ok z) e q = absurd (let z : ◌≡◌ {A = ℕ} 0 1 = cc in omega arith)

-- What is refused on the row that was found, or for want of one, leaves the table.
found_keeps : (t : List ℕ) (k : ℕ) (o : Op) (e : Refusal) → ((r : Row) → answer_of o r ≡ refused e → table_after t k (rule_of o r) ≡ t) →
    answer_in t k o ≡ refused e → table_by t k o ≡ t
unfolding table_by table_after answer_in
found_keeps t k o e keeps = go (located t k)
  where
    go : (l : Result Row Refusal) → on_found refused (answer_of o) l ≡ refused e → table_after t k (on_found Err (rule_of o) l) ≡ t
    go (Err x) q = refl
    go (Ok r) q = keeps r q

-- A call that is refused leaves every word of the table.
pub refused_table : (t : List ℕ) (k : ℕ) (o : Op) (e : Refusal) → answer_in t k o ≡ refused e → table_by t k o ≡ t
unfolding answer_of rule_of read_row
refused_table t k (changes c) e = found_keeps t k (changes c) e (λ r. kept_table t k (change_row c r) e)
refused_table t k (restore bytes) e = found_keeps t k (restore bytes) e (λ r. kept_table t k (restore_row bytes r) e)
refused_table t k (reading x) e = found_keeps t k (reading x) e (λ r. unread_table t k r (reading_row x r) e)
refused_table t k (looks l) e = λ q. look_keeps t k l
