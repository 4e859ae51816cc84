-- The order of the reasons in a restore, a view, a reading, a speed by period and a save: docs/RULES.md, "Reasons for saying no".
use Rattle.std.specs.Prelude.{Result, Ok, Err, ⊤}
use Prim.Native.Nat.{ℕ, ◌<◌}
use mathlib.Core.Path.{◌≡◌, refl}
use mathlib.Core.Logic.{◌≢◌, ◌⊎◌, inl, inr}
use mathlib.Core.List.{List}
use lib.Dec.{lit<, lit≤}
use Rattle.position.specs.Position.{position_of}
use Rattle.refusal.specs.Refusal.{number_of}
use Rattle.refusal.specs.Order.{checked, restoring, place_in, After, ByThen}
use Rattle.refusal.proofs.RefusalLaws.{after_either}
use Rattle.refusal.specs.declared.Refusal.{Refusal}
use Rattle.refusal.specs.declared.Refusal.TheVariants.{Axis, Broken as BROKEN, Empty as EMPTY, Kind as KIND, Occupied as OCCUPIED}
use Rattle.reckon.specs.Reckoned.{refusal_in}
use Rattle.speed.specs.Speed.{speed_refusal}
use Rattle.axis.specs.Row.{axis_of}
use Rattle.axis_sound.specs.Sound.{is_empty, status_of}
use Rattle.axis_sound.specs.declared.Status.TheVariants.{Empty}
use Rattle.axis.specs.declared.row.Row.{Row}
use Rattle.record.specs.Answer.{written_number}
use Rattle.record.specs.Record.{read_as}
use Rattle.row_calls.specs.Answer.{done_of, done_number, changed_number}
use Rattle.row_view.specs.View.{view_number, view_row}
use Rattle.row_saving.specs.Saving.{saved_of, said_row, save_row, restore_row, restored_by}
use Rattle.row_speed.specs.Speed.{speed_row}
use Rattle.row_counter.specs.Reading.{reading_row}
use Rattle.row_speed.proofs.SpeedLaws.{speed_past}
use Rattle.row_saving.proofs.SaveLaws.{restore_refused, unread_number, restore_occupied, save_past}
use Rattle.row_counter.proofs.ReadingLaws.{reading_past}
use Rattle.table_change.specs.Making.{Makes}
use Rattle.table.specs.Call.{viewed_in, read_in, speed_in, save_in}
use Rattle.table_change.specs.Order.{Ordered}
use Rattle.table_change.proofs.OrderLaws.{in_order, by_status_lem, late, any_ordered}
use Rattle.record_axis.specs.declared.saved.Saved.{Saved}

-- ---- each call's own reasons

-- Every number that a row's own rule answers is done or comes after AXIS; of restore it comes after KIND.
pub restore_late : (s : List ℕ) (r : Row) → After checked KIND (changed_number (restore_row s r))
unfolding restore_row restored_by
restore_late s r = go (read_as s) refl
  where
    go : (a : Result Saved Refusal) → read_as s ≡ a → After checked KIND (changed_number (restored_by a r))
    go (Ok said) h =
        after_either checked changed_number KIND (is_empty r) (Ok (said_row said)) (Err OCCUPIED) (inl refl) (inr (lit< tt))
    go (Err e) h = unread_number (After checked KIND) (inr (lit< tt)) (inr (lit< tt)) (inr (lit< tt)) s e h

-- A restore of a record that is refused gives that reason, after which OCCUPIED comes in its order, and a restore of a row that is not
-- empty is refused by OCCUPIED at the latest.
pub restore_in_turn : (s : List ℕ) (r : Row) →
    ((e : Refusal) → read_as s ≡ Err e → (restore_row s r ≡ Err e) × After restoring e (number_of OCCUPIED))
    × ((status_of r ≡ Empty → ⊥) → ByThen restoring OCCUPIED (changed_number (restore_row s r)))
restore_in_turn s r = (
  λ e h. (restore_refused s e r h, unread_number Earlier (inr (lit< tt)) (inr (lit< tt)) (inr (lit< tt)) s e h),
  λ full. go full (read_as s) refl,
)
  where
    Earlier : ℕ → Type 0
    Earlier n = (number_of OCCUPIED ≡ 0) ⊎ (place_in restoring n < place_in restoring (number_of OCCUPIED))

    go : (status_of r ≡ Empty → ⊥) → (a : Result Saved Refusal) → read_as s ≡ a → ByThen restoring OCCUPIED (changed_number (restore_row s r))
    go full (Ok said) h = rw ((restore_occupied s r).1 (rw h, full)) (lit≤ tt)
    go full (Err e) h =
        rw (restore_refused s e r h) (unread_number (ByThen restoring OCCUPIED) (lit≤ tt) (lit≤ tt) (lit≤ tt) s e h)

pub view_late : (r : Row) → After checked Axis (view_number (view_row r))
unfolding view_row
view_late r = by_status_lem view_number Err (λ e. refl) _ _ (inl refl) (inl refl) (status_of r)

pub reading_late : (x : ℕ) (r : Row) → After checked Axis (refusal_in (reading_row x r))
unfolding reading_row
reading_late x r =
    let a = axis_of r in
    by_status_lem refusal_in Err (λ e. refl) _ _ (inr (lit< tt)) (late (reading_past a.config.width (position_of a.word) x))
    (status_of r)

pub speed_late : (rate : ℕ) (r : Row) → After checked Axis (speed_refusal (speed_row rate r))
unfolding speed_row
speed_late rate r =
    by_status_lem speed_refusal Err (λ e. refl) _ _ (late (speed_past rate (axis_of r).pace)) (inr (lit< tt)) (status_of r)

pub save_late : (room : ℕ) (r : Row) → After checked Axis (written_number (save_row room r))
unfolding save_row
save_late room r =
    let past = save_past room (saved_of (axis_of r)) in
    by_status_lem written_number Err (λ e. refl) _ _ (late past) (late past) (status_of r)

-- ---- the calls

-- Restore says LENGTH, then AXIS, then its record's reasons in their own order, then OCCUPIED, and never BROKEN or EMPTY.
pub restore_ordered : (s : List ℕ) {t u : List ℕ} {k : ℕ} {a : Result ⊤ Refusal} → Makes (restore_row s) t k u a →
    Ordered done_number (λ r. done_of (restore_row s r)) t k a × ((done_number a ≢ number_of BROKEN) × (done_number a ≢ number_of EMPTY))
restore_ordered s w = any_ordered _ w (restore_late s)

-- A view says LENGTH, then AXIS, then its own.
pub view_ordered : (t : List ℕ) (k : ℕ) → Ordered view_number view_row t k (viewed_in t k)
view_ordered t k = in_order view_number Err (λ e. refl) view_row t k view_late

-- So does a reading.
pub reading_ordered : (x : ℕ) (t : List ℕ) (k : ℕ) → Ordered refusal_in (reading_row x) t k (read_in x t k)
reading_ordered x t k = in_order refusal_in Err (λ e. refl) (reading_row x) t k (reading_late x)

-- So does speed by period.
pub speed_ordered : (rate : ℕ) (t : List ℕ) (k : ℕ) → Ordered speed_refusal (speed_row rate) t k (speed_in rate t k)
speed_ordered rate t k = in_order speed_refusal Err (λ e. refl) (speed_row rate) t k (speed_late rate)

-- So does save.
pub save_ordered : (room : ℕ) (t : List ℕ) (k : ℕ) → Ordered written_number (save_row room) t k (save_in room t k)
save_ordered room t k = in_order written_number Err (λ e. refl) (save_row room) t k (save_late room)
