-- The order of the reasons in any call that names one axis, and in the five of this room: docs/RULES.md, "Reasons for saying no".
use Rattle.std.specs.Prelude.{Result, Ok, Err, ⊤}
use Prim.Native.Nat.{ℕ, ◌*◌, ◌<◌, ◌≤◌}
use native.Mathlib.Nat.{le_refl}
use native.Mathlib.Omega.{arith}
use mathlib.Core.Path.{◌≡◌, refl, sym, ap, ◌∙◌}
use mathlib.Core.Logic.{◌≢◌, ◌↔◌, inl, inr}
use mathlib.Core.Bool.{Bool, true, false, cond}
use mathlib.Core.List.{List}
use lib.Dec.{eqb, ltb, lit<, lit≤}
use lib.IntN.{ℤ}
use lib.ListN.{length}
use borrow.Author.Tests.{eqb-true, eqb-false, ltb-true, ltb-false}
use Rattle.refusal.specs.Refusal.{number_of}
use Rattle.refusal.specs.Order.{checked, place_in, After, ByThen}
use Rattle.refusal.proofs.RefusalLaws.{after_not, after_sooner, after_either}
use Rattle.refusal.specs.declared.Refusal.{Refusal}
use Rattle.refusal.specs.declared.Refusal.TheVariants.{Length, Axis, Broken as BROKEN, Empty as EMPTY, Kind as KIND}
use Rattle.refusal.specs.declared.Refusal.TheVariants.{Value as VALUE, Occupied as OCCUPIED}
use Rattle.axis.specs.Limit.{most_axes}
use Rattle.axis.specs.Config.{good_config}
use Rattle.axis_sound.specs.Sound.{is_empty, status_of}
use Rattle.axis.specs.declared.row.Row.{Row}
use Rattle.axis_sound.specs.declared.Status.{Status}
use Rattle.axis_sound.specs.declared.Status.TheVariants.{Empty, Sampled, Counter, Broken}
use Rattle.row_calls.specs.Answer.{done_of, done_number, changed_number}
use Rattle.row_calls.specs.Calls.{by_status, setup_row, erase_row, preset_row, arm_row, acknowledge_row}
use Rattle.row_calls.proofs.ReasonLaws.{Past, place_past}
use Rattle.row_calls.proofs.SetupLaws.{setup_occupied}
use Rattle.table_rows.specs.Table.{axes_in, row_at}
use Rattle.table_rows.specs.Located.{located, on_found}
use Rattle.table_change.specs.Making.{Makes}
use Rattle.table_change.specs.Order.{Ordered}
use Rattle.table_rows.proofs.RowsLaws.{axes_of, length_wrong}
use Rattle.table_rows.proofs.LocatedLaws.{found_none, found_past, found_at}

-- ---- one law for every call

-- The three ways to look for a row.
data Search (t : List ℕ) (k : ℕ) : Type 0 where
  none : axes_in (length t) ≡ 0 → located t k ≡ Err Length → Search t k
  past : axes_in (length t) ≢ 0 → axes_in (length t) ≤ k → located t k ≡ Err Axis → Search t k
  there : k < axes_in (length t) → located t k ≡ Ok (row_at t k) → Search t k

search : (t : List ℕ) (k : ℕ) → Search t k
search t k = go (eqb (axes_in (length t)) 0) refl (ltb k (axes_in (length t))) refl
  where
    go : (b : Bool) → eqb (axes_in (length t)) 0 ≡ b → (c : Bool) → ltb k (axes_in (length t)) ≡ c → Search t k
    go true z c h = let e = eqb-true _ _ z in none e (sym (found_none t k e))
    go false z true h = let l = ltb-true _ _ h in there l (sym (found_at t k l))
    go false z false h =
        let e = eqb-false _ _ z in
        let l = ltb-false _ _ h in
        past e l (sym (found_past t k e l))

module _ {A : Type 0} (number : A → ℕ) (refuse : Refusal → A) (same : (e : Refusal) → number (refuse e) ≡ number_of e)
    (say : Row → A) (t : List ℕ) (k : ℕ) where
  -- A call that is refused for want of a row is not refused for another reason.
  only : (e f : Refusal) → number_of e ≢ number_of f → located t k ≡ Err e → number (on_found refuse say (located t k)) ≢ number_of f
  only e f n q w = n (sym (same e) ∙ rw q at w)

  -- A call whose own rule gives only later reasons, in an order with LENGTH before AXIS, says both exactly where their lines do.
  pub by_order : (order : List Refusal) → place_in order (number_of Length) ≤ place_in order (number_of Axis) →
      ((r : Row) → After order Axis (number (say r))) → Ordered number say t k (on_found refuse say (located t k))
  by_order order first late = go (search t k)
    where
      go : Search t k → Ordered number say t k (on_found refuse say (located t k))
      go (none z q) = record {
        slice = (λ _. z, λ _. rw q (same Length));
        named = (λ n. absurd (only Length Axis (λ e. omega arith) q n), λ h. absurd (h.0 z));
        own = λ h. absurd (omega arith);
      }
      go (past z h q) = record {
        slice = (λ n. absurd (only Axis Length (λ e. omega arith) q n), λ e. absurd (z e));
        named = (λ _. (z, h), λ _. rw q (same Axis));
        own = λ l. absurd (omega arith);
      }
      go (there l q) = record {
        slice = (λ n. absurd (after_not order Axis Length first (late (row_at t k)) (rw q at n)), λ z. absurd (omega arith));
        named = (λ n. absurd (after_not order Axis Axis (le_refl _) (late (row_at t k)) (rw q at n)), λ h. absurd (omega (arith, h.1)));
        own = λ _. rw q;
      }

  -- So does a call that checks them in the order of all reasons.
  pub in_order : ((r : Row) → After checked Axis (number (say r))) → Ordered number say t k (on_found refuse say (located t k))
  in_order = by_order checked (lit≤ tt)

  -- A call that asks for no axis in the row is never refused as BROKEN or EMPTY.
  pub any_row_lem : ((r : Row) → After checked EMPTY (number (say r))) →
      (number (on_found refuse say (located t k)) ≢ number_of BROKEN) × (number (on_found refuse say (located t k)) ≢ number_of EMPTY)
  any_row_lem late = (never BROKEN (lit≤ tt) (λ e. omega arith) (λ e. omega arith), never EMPTY (lit≤ tt) (λ e. omega arith) (λ e. omega arith))
    where
      never : (f : Refusal) → place_in checked (number_of f) ≤ place_in checked (number_of EMPTY) →
          number_of Length ≢ number_of f → number_of Axis ≢ number_of f → number (on_found refuse say (located t k)) ≢ number_of f
      never f h a b e = go (search t k)
        where
          go : Search t k → ⊥
          go (none z q) = only Length f a q e
          go (past z p q) = only Axis f b q e
          go (there l q) = after_not checked EMPTY f h (late (row_at t k)) (rw q at e)

module _ {A : Type 0} {number : A → ℕ} {say : Row → A} {t : List ℕ} {k : ℕ} {a : A} (o : Ordered number say t k a) where
  -- So LENGTH is exactly for a slice that is not 4n words, n from 1 to the limit.
  pub length_line : (number a ≡ number_of Length) ↔ ((n : ℕ) → 1 ≤ n → n ≤ most_axes → length t ≢ n * 4)
  length_line = (λ e. (length_wrong (length t)).0 (o.slice.0 e), λ h. o.slice.1 ((length_wrong (length t)).1 h))

  -- And AXIS, with such a slice, exactly for a number of n or more.
  pub axis_line : (n : ℕ) → 1 ≤ n → n ≤ most_axes → length t ≡ n * 4 → (number a ≡ number_of Axis) ↔ (n ≤ k)
  axis_line n some most e =
      let held : axes_in (length t) ≡ n = rw e (axes_of n most) in
      (λ h. omega (arith, (o.named.0 h).1), λ h. o.named.1 ((λ z. let far : ⊥ = omega arith in far), omega arith))

-- ---- each call's own reasons

-- A choice between two answers with later reasons is one.
abbrev either : {A : Type 0} (number : A → ℕ) (e : Refusal) (b : Bool) (p q : A) →
    After checked e (number p) → After checked e (number q) → After checked e (number (cond b p q))
either = after_either checked

-- A call that takes sound rows that are not empty: BROKEN and EMPTY are later than AXIS, and so is what follows.
pub by_status_lem : {A : Type 0} (number : A → ℕ) (refuse : Refusal → A) (same : (e : Refusal) → number (refuse e) ≡ number_of e) →
    (sampled counter : A) → After checked Axis (number sampled) → After checked Axis (number counter) → (s : Status) →
    After checked Axis (number (by_status refuse sampled counter s))
by_status_lem number refuse same a b x y Broken = inr (rw (same BROKEN) (lit< tt))
by_status_lem number refuse same a b x y Empty = inr (rw (same EMPTY) (lit< tt))
by_status_lem number refuse same a b x y Sampled = x
by_status_lem number refuse same a b x y Counter = y

-- What comes after OCCUPIED comes after AXIS.
pub late : {n : ℕ} → Past n → After checked Axis n
unfolding Past
late = after_sooner checked OCCUPIED Axis (lit≤ tt)

-- Every number that a row's own rule answers is done or comes after AXIS; of setup and erase it comes after KIND.
pub setup_late : (kind depth width turn : ℕ) (r : Row) → After checked KIND (changed_number (setup_row kind depth width turn r))
unfolding setup_row
setup_late kind depth width turn r =
    let told = either changed_number KIND (good_config kind depth width turn) _ _ (inl refl) (inr (lit< tt)) in
    either changed_number KIND (is_empty r) _ _ told (inr (lit< tt))

-- A setup of a row that is not empty is refused by OCCUPIED at the latest, and one with numbers that are no configuration by VALUE.
pub setup_in_turn : (kind depth width turn : ℕ) (r : Row) →
    ((status_of r ≡ Empty → ⊥) → ByThen checked OCCUPIED (changed_number (setup_row kind depth width turn r)))
    × (good_config kind depth width turn ≡ false → ByThen checked VALUE (changed_number (setup_row kind depth width turn r)))
unfolding setup_row
setup_in_turn kind depth width turn r = (
  λ full. rw ((setup_occupied kind depth width turn r).1 full) (lit≤ tt),
  λ bad. rw bad (go (is_empty r)),
)
  where
    go : (b : Bool) → ByThen checked VALUE (changed_number (cond b (Err VALUE) (Err OCCUPIED)))
    go true = lit≤ tt
    go false = lit≤ tt

pub erase_late : (r : Row) → After checked KIND (changed_number (erase_row r))
unfolding erase_row
erase_late r = inl refl

pub preset_late : (p : ℤ) (r : Row) → After checked Axis (changed_number (preset_row p r))
unfolding preset_row
preset_late p r = by_status_lem changed_number Err (λ e. refl) _ _ (late (place_past p r)) (late (place_past p r)) (status_of r)

pub arm_late : (r : Row) → After checked Axis (changed_number (arm_row r))
unfolding arm_row
arm_late r = by_status_lem changed_number Err (λ e. refl) _ _ (inl refl) (inr (lit< tt)) (status_of r)

pub acknowledge_late : (r : Row) → After checked Axis (changed_number (acknowledge_row r))
unfolding acknowledge_row
acknowledge_late r = by_status_lem changed_number Err (λ e. refl) _ _ (inl refl) (inr (lit< tt)) (status_of r)

-- ---- the calls

module _ (rule : Row → Result Row Refusal) {t u : List ℕ} {k : ℕ} {a : Result ⊤ Refusal} (w : Makes rule t k u a) where
  ordered_by : ((r : Row) → After checked Axis (changed_number (rule r))) → Ordered done_number (λ r. done_of (rule r)) t k a
  ordered_by late =
      let o = in_order changed_number Err (λ e. refl) rule t k late in
      rw w.answer (record { slice = o.slice; named = o.named; own = λ h. ap done_of (o.own h) })

  -- A call that asks for no axis in the row.
  pub any_ordered : ((r : Row) → After checked KIND (changed_number (rule r))) →
      Ordered done_number (λ r. done_of (rule r)) t k a × ((done_number a ≢ number_of BROKEN) × (done_number a ≢ number_of EMPTY))
  any_ordered later = (
    ordered_by (λ r. after_sooner checked KIND Axis (lit≤ tt) (later r)),
    rw w.answer (any_row_lem changed_number Err (λ e. refl) rule t k (λ r. after_sooner checked KIND EMPTY (lit≤ tt) (later r))),
  )

-- Setup says LENGTH, then AXIS, then its own, and never BROKEN or EMPTY.
pub setup_ordered : (kind depth width turn : ℕ) {t u : List ℕ} {k : ℕ} {a : Result ⊤ Refusal} → Makes (setup_row kind depth width turn) t k u a →
    Ordered done_number (λ r. done_of (setup_row kind depth width turn r)) t k a ×
    ((done_number a ≢ number_of BROKEN) × (done_number a ≢ number_of EMPTY))
setup_ordered kind depth width turn w = any_ordered _ w (setup_late kind depth width turn)

-- So does erase.
pub erase_ordered : {t u : List ℕ} {k : ℕ} {a : Result ⊤ Refusal} → Makes erase_row t k u a →
    Ordered done_number (λ r. done_of (erase_row r)) t k a × ((done_number a ≢ number_of BROKEN) × (done_number a ≢ number_of EMPTY))
erase_ordered w = any_ordered _ w erase_late

-- Preset says LENGTH, then AXIS, then its own.
pub preset_ordered : (p : ℤ) {t u : List ℕ} {k : ℕ} {a : Result ⊤ Refusal} → Makes (preset_row p) t k u a →
    Ordered done_number (λ r. done_of (preset_row p r)) t k a
preset_ordered p w = ordered_by _ w (preset_late p)

-- So does arm.
pub arm_ordered : {t u : List ℕ} {k : ℕ} {a : Result ⊤ Refusal} → Makes arm_row t k u a → Ordered done_number (λ r. done_of (arm_row r)) t k a
arm_ordered w = ordered_by _ w arm_late

-- So does acknowledge.
pub acknowledge_ordered : {t u : List ℕ} {k : ℕ} {a : Result ⊤ Refusal} → Makes acknowledge_row t k u a →
    Ordered done_number (λ r. done_of (acknowledge_row r)) t k a
acknowledge_ordered w = ordered_by _ w acknowledge_late
