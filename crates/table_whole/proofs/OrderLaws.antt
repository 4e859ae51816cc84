-- The order of the reasons in a whole-table save and restore: docs/RULES.md, "Reasons for saying no".
use Rattle.std.specs.Prelude.{Result, Err, ⊤, Ok}
use mathlib.Core.Path.{◌≡◌, refl, ap, subst}
use mathlib.Core.Logic.{◌≢◌, inl, inr}
use mathlib.Core.List.{List}
use Prim.Native.Nat.{ℕ, ◌<◌}
use native.Mathlib.Omega.{arith}
use lib.Dec.{lit<, lit≤}
use lib.ListN.{length}
use Rattle.refusal.specs.declared.Refusal.{Refusal}
use Rattle.refusal.specs.Refusal.{number_of}
use Rattle.refusal.specs.declared.Refusal.TheVariants.{Length, Axis, Broken as BROKEN, Occupied}
use Rattle.refusal.specs.Order.{checked, restoring_all, After, ByThen}
use Rattle.axis_sound.specs.Sound.{status_of}
use Rattle.axis_sound.specs.declared.Status.TheVariants.{Empty, Broken}
use Rattle.record.specs.Answer.{written_number}
use Rattle.record_entry.specs.declared.entry.Entry.{Entry}
use Rattle.record_table.specs.TableRecord.{table_read_as}
use Rattle.record_table.proofs.OrderLaws.{table_exactly}
use Rattle.record_table.proofs.TableLaws.{unread_reason}
use Rattle.row_calls.specs.Answer.{done_number}
use Rattle.table_rows.specs.Table.{axes_in, row_at}
use Rattle.table_record.specs.Saving.{TableSaves}
use Rattle.table_record.specs.Restoring.{TableRestores}
use Rattle.table_whole.specs.Answers.{SaveAnswers, no_table, broken_row, no_room, saved}
use Rattle.table_whole.specs.Answers.{EachBelow, RestoreAnswers, no_rows, no_record, no_axis, full_row, restored}
use Rattle.table_whole.proofs.AnswerLaws.{save_exactly, restore_exactly}

-- Where a slice holds an axis, a save is done or refused for a reason after LENGTH; where a row is broken, by BROKEN at the latest.
pub save_in_turn : (t b : List ℕ) {d : List ℕ} {a : Result ℕ Refusal} → TableSaves t b d a →
    (axes_in (length t) ≢ 0 → After checked Length (written_number a))
    × ((k : ℕ) → k < axes_in (length t) → status_of (row_at t k) ≡ Broken → ByThen checked BROKEN (written_number a))
save_in_turn t b {a = a} w = go ((save_exactly t (length b) a).0 w.answer)
  where
    go : {c : Result ℕ Refusal} → SaveAnswers t (length b) c →
        (axes_in (length t) ≢ 0 → After checked Length (written_number c))
        × ((k : ℕ) → k < axes_in (length t) → status_of (row_at t k) ≡ Broken → ByThen checked BROKEN (written_number c))
    go (no_table z) = (λ some. absurd (some z), λ k h e. lit≤ tt)
    go (broken_row k h e) = (λ some. inr (lit< tt), λ k h e. lit≤ tt)
    go (no_room z s l) = (λ some. inr (lit< tt), λ k h e. absurd (s k h e))
    go (saved z s l) = (λ some. inl refl, λ k h e. absurd (s k h e))

-- Where a slice holds an axis, a restore is done or refused for a reason after LENGTH; of a record that is refused it gives that reason,
-- which comes before AXIS; where an axis has no row, AXIS is the latest, and where a row is not empty, OCCUPIED.
pub restore_in_turn : (s t : List ℕ) {u : List ℕ} {a : Result ⊤ Refusal} → TableRestores s t u a →
    (axes_in (length t) ≢ 0 → After restoring_all Length (done_number a))
    × ((e : Refusal) → axes_in (length t) ≢ 0 → table_read_as s ≡ Err e → (a ≡ Err e) × After restoring_all e (number_of Axis))
    × ((es : List Entry) → table_read_as s ≡ Ok es → (EachBelow (axes_in (length t)) es → ⊥) → ByThen restoring_all Axis (done_number a))
    × ((k : ℕ) → k < axes_in (length t) → status_of (row_at t k) ≢ Empty → ByThen restoring_all Occupied (done_number a))
restore_in_turn s t {a = a} w = go ((restore_exactly s t a).0 w.answer)
  where
    sooner : (e : Refusal) → table_read_as s ≡ Err e → After restoring_all e (number_of Axis)
    sooner e h = unread_reason (λ r. After restoring_all r (number_of Axis)) (inr (lit< tt)) (inr (lit< tt)) (λ n. inr (lit< tt)) s e h

    late : (e : Refusal) → table_read_as s ≡ Err e → After restoring_all Length (number_of e)
    late e h = unread_reason (λ r. After restoring_all Length (number_of r)) (inr (lit< tt)) (inr (lit< tt)) (λ n. inr (lit< tt)) s e h

    go : {c : Result ⊤ Refusal} → RestoreAnswers s t c →
        (axes_in (length t) ≢ 0 → After restoring_all Length (done_number c))
        × ((e : Refusal) → axes_in (length t) ≢ 0 → table_read_as s ≡ Err e → (c ≡ Err e) × After restoring_all e (number_of Axis))
        × ((es : List Entry) → table_read_as s ≡ Ok es → (EachBelow (axes_in (length t)) es → ⊥) → ByThen restoring_all Axis (done_number c))
        × ((k : ℕ) → k < axes_in (length t) → status_of (row_at t k) ≢ Empty → ByThen restoring_all Occupied (done_number c))
    go (no_rows z) = (λ some. absurd (some z), λ e some h. absurd (some z), λ es h b. lit≤ tt, λ k h f. lit≤ tt)
    go (no_record e z j) =
        let h = (table_exactly s (Err e)).1 j in (
          λ some. late e h,
          λ d some q. (let same : e ≡ d = cc in (ap Err same, sooner d q)),
          λ es q b. absurd (let z : ◌≡◌ {A = ℕ} 0 1 = cc in omega arith),
          λ k l f. unread_reason (λ r. ByThen restoring_all Occupied (number_of r)) (lit≤ tt) (lit≤ tt) (λ n. lit≤ tt) s e h,
        )
    go (no_axis es z j b) =
        let h = (table_exactly s (Ok es)).1 j in (
          λ some. inr (lit< tt),
          λ d some q. absurd (let z : ◌≡◌ {A = ℕ} 0 1 = cc in omega arith),
          λ fs q c. lit≤ tt,
          λ k l f. lit≤ tt,
        )
    go (full_row es k j b l e) =
        let h = (table_exactly s (Ok es)).1 j in (
          λ some. inr (lit< tt),
          λ d some q. absurd (let z : ◌≡◌ {A = ℕ} 0 1 = cc in omega arith),
          λ fs q c. absurd (let same : es ≡ fs = cc in c (subst (EachBelow (axes_in (length t))) same b)),
          λ i m f. lit≤ tt,
        )
    go (restored es z j b v) =
        let h = (table_exactly s (Ok es)).1 j in (
          λ some. inl refl,
          λ d some q. absurd (let z : ◌≡◌ {A = ℕ} 0 1 = cc in omega arith),
          λ fs q c. absurd (let same : es ≡ fs = cc in c (subst (EachBelow (axes_in (length t))) same b)),
          λ i m f. absurd (f (v i m)),
        )
