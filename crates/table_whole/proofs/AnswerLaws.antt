-- The laws of the answers of a whole-table save and restore: each exactly when its line says.
use Rattle.std.specs.Prelude.{Result, Ok, Err, ⊤}
use mathlib.Core.Path.{◌≡◌, refl, sym, ◌∙◌}
use mathlib.Core.Logic.{◌≢◌, ◌↔◌}
use mathlib.Core.Bool.{true, false, ◌&&◌, true≢false}
use mathlib.Core.List.{List, [], ◌∷◌}
use Prim.Native.Nat.{ℕ, ◌<◌}
use native.Mathlib.Omega.{arith}
use borrow.Author.Tests.{not-true, not-false, eq-eqb, ne_eqb, eqb-true, eqb-false, le-leb, lt-leb, leb-true, leb-false, lt-ltb, ltb-true}
use lib.Dec.{eqb, leb, ltb}
use lib.ListN.{length}
use Rattle.integers.proofs.Balance.{Decided, yes, no, test}
use Rattle.refusal.specs.declared.Refusal.{Refusal}
use Rattle.axis.specs.declared.row.Row.{Row}
use Rattle.axis.proofs.TestLaws.{both, refuted}
use Rattle.axis_sound.specs.Sound.{is_empty, status_of, passes}
use Rattle.axis_sound.specs.declared.Status.{Status}
use Rattle.axis_sound.specs.declared.Status.TheVariants.{Empty, Sampled, Counter, Broken}
use Rattle.axis_sound.proofs.SoundLaws.{status_exactly}
use Rattle.axis_open.specs.Open.{broken_by}
use Rattle.record_entry.specs.declared.entry.Entry.{Entry}
use Rattle.record_table.specs.TableRecord.{table_read_as}
use Rattle.record_table.specs.Order.{TableJudged}
use Rattle.record_table.proofs.OrderLaws.{table_exactly}
use Rattle.row_calls.proofs.SetupLaws.{not_zero}
use Rattle.table_rows.specs.Table.{axes_in, row_at}
use Rattle.table_record.specs.Saving.{record_in, any_broken, table_save_in, TableSaves}
use Rattle.table_record.specs.Restoring.{all_below, is_full, all_empty, ruling_on, table_ruling, table_done, TableRestores}
use Rattle.table_whole.specs.Answers.{SaveAnswers, no_table, broken_row, no_room, saved, EachBelow, RestoreAnswers}
use Rattle.table_whole.specs.Answers.{no_rows, no_record, no_axis, full_row, restored}
use Rattle.table_record.proofs.AnyRowLaws.{any_row_lem, any_found, none_passes}
use Rattle.table_record.proofs.RestoringLaws.{empty_not, empty_each, empty_all}

-- ---- tests of all rows and of all axes

-- A broken row is one by its status.
broken_is : (r : Row) → (broken_by (status_of r) ≡ true) ↔ (status_of r ≡ Broken)
broken_is r = (go (status_of r), λ e. rw e)
  where
    go : (s : Status) → broken_by s ≡ true → s ≡ Broken
    go Empty e = absurd (true≢false (sym e))
    go Sampled e = absurd (true≢false (sym e))
    go Counter e = absurd (true≢false (sym e))
    go Broken e = refl

-- Every axis is below n exactly where each is.
pub below_each : (n : ℕ) (es : List Entry) → (all_below n es ≡ true) ↔ EachBelow n es
unfolding all_below
below_each n [] = (λ e. tt, λ e. refl)
below_each n (x ∷ es) = go (below_each n es)
  where
    go : (all_below n es ≡ true) ↔ EachBelow n es → ((ltb x.axis n && all_below n es) ≡ true) ↔ ((x.axis < n) × EachBelow n es)
    go less = (
      λ e. (let p = both (ltb x.axis n) (all_below n es) e in (ltb-true x.axis n p.0, less.0 p.1)),
      λ p. rw (lt-ltb x.axis n p.0) (less.1 p.1),
    )

-- Where the rows are not all empty, there is one that is not.
full_found : (n : ℕ) (t : List ℕ) → all_empty n t ≡ false → (k : ℕ) × (k < n) × (is_empty (row_at t k) ≡ false)
full_found n t e = let p = any_found is_full n t (not-false _ e) in (p.0, p.1, not-true _ p.2)

-- ---- the save

module _ (t : List ℕ) (room : ℕ) where
  abbrev n : ℕ
  n = axes_in (length t)

  -- Where a row is broken, and where none is.
  broken_at : (k : ℕ) → k < n → status_of (row_at t k) ≡ Broken → any_broken n t ≡ true
  broken_at k h e = any_row_lem _ n k t h ((broken_is (row_at t k)).1 e)

  none_broken : ((k : ℕ) → k < n → status_of (row_at t k) ≢ Broken) → any_broken n t ≡ false
  none_broken f = (none_passes _ n t).1 (λ k h. refuted (broken_by (status_of (row_at t k))) (λ e. f k h ((broken_is (row_at t k)).0 e)))

  pub save_exactly : (a : Result ℕ Refusal) → (a ≡ table_save_in room t) ↔ SaveAnswers t room a
  unfolding table_save_in
  save_exactly a = (λ e. rw e (to (test (eqb n 0)) (test (any_broken n t)) (test (leb (length (record_in t)) room))), from)
    where
      to : Decided (eqb n 0) → Decided (any_broken n t) → Decided (leb (length (record_in t)) room) → SaveAnswers t room (table_save_in room t)
      to (yes z) b l = rw z (no_table (eqb-true n 0 z))
      to (no z) (yes b) l = let p = any_found _ n t b in rw (z, b) (broken_row p.0 p.1 ((broken_is (row_at t p.0)).0 p.2))
      to (no z) (no b) (no l) =
          rw (z, b, l) (no_room (eqb-false n 0 z) (λ k h e. true≢false (sym (broken_at k h e) ∙ b)) (leb-false (length
          (record_in t)) room l))
      to (no z) (no b) (yes l) =
          rw (z, b, l) (saved (eqb-false n 0 z) (λ k h e. true≢false (sym (broken_at k h e) ∙ b)) (leb-true (length (record_in t)) room l))

      from : {c : Result ℕ Refusal} → SaveAnswers t room c → c ≡ table_save_in room t
      from (no_table z) = rw (eq-eqb n 0 z)
      from (broken_row k h e) = let z : n ≢ 0 = omega arith in rw (ne_eqb n 0 z, broken_at k h e)
      from (no_room z b l) = rw (ne_eqb n 0 z, none_broken b, lt-leb (length (record_in t)) room l)
      from (saved z b l) = rw (ne_eqb n 0 z, none_broken b, le-leb (length (record_in t)) room l)

-- A refused save keeps every byte.
pub unsaved_whole : (t b : List ℕ) {d : List ℕ} (e : Refusal) → TableSaves t b d (Err e) → d ≡ b
unsaved_whole t b {d} e w = go (table_save_in (length b) t) refl
  where
    go : (a : Result ℕ Refusal) → table_save_in (length b) t ≡ a → d ≡ b
    go (Ok m) q = absurd (let z : ◌≡◌ {A = ℕ} 0 1 = cc w.answer in omega arith)
    go (Err x) q = w.buffer ∙ rw q

-- ---- the restore

module _ (s t : List ℕ) where
  abbrev m : ℕ
  m = axes_in (length t)

  -- A row that is not empty, and none.
  full_at : (k : ℕ) → k < m → status_of (row_at t k) ≢ Empty → all_empty m t ≡ false
  full_at k h e = empty_not m k t h (not_zero (row_at t k) e)

  all_empty_lem : ((k : ℕ) → k < m → status_of (row_at t k) ≡ Empty) → all_empty m t ≡ true
  unfolding passes
  all_empty_lem f = empty_all m t (λ k h. (status_exactly Empty (row_at t k)).0 (f k h))

  pub restore_exactly : (a : Result ⊤ Refusal) → (a ≡ table_done (table_ruling s t)) ↔ RestoreAnswers s t a
  unfolding table_ruling passes
  restore_exactly a = (λ e. rw e (to (test (eqb m 0)) (table_read_as s) refl), from)
    where
      judged : (r : Result (List Entry) Refusal) → table_read_as s ≡ r → TableJudged s r
      judged r h = (table_exactly s r).0 h

      by : (es : List Entry) → m ≢ 0 → table_read_as s ≡ Ok es → Decided (all_below m es) → Decided (all_empty m t) →
          RestoreAnswers s t (table_done (ruling_on m t (Ok es)))
      by es z h (no b) v = rw b (no_axis es z (judged (Ok es) h) (λ e. true≢false (sym ((below_each m es).1 e) ∙ b)))
      by es z h (yes b) (yes v) =
          rw (b, v) (restored es z (judged (Ok es) h) ((below_each m es).0 b)
          (λ k l. (status_exactly Empty (row_at t k)).1 (empty_each m k t v l)))
      by es z h (yes b) (no v) =
          let p = full_found m t v in
          rw (b, v) (full_row es p.0 (judged (Ok es) h) ((below_each m es).0 b) p.1
          (λ e. true≢false (sym ((status_exactly Empty (row_at t p.0)).0 e) ∙ p.2)))

      to : Decided (eqb m 0) → (r : Result (List Entry) Refusal) → table_read_as s ≡ r → RestoreAnswers s t (table_done (table_ruling s t))
      to (yes z) r h = rw z (no_rows (eqb-true m 0 z))
      to (no z) (Err e) h = rw (z, h) (no_record e (eqb-false m 0 z) (judged (Err e) h))
      to (no z) (Ok es) h = rw (z, h) (by es (eqb-false m 0 z) h (test (all_below m es)) (test (all_empty m t)))

      from : {c : Result ⊤ Refusal} → RestoreAnswers s t c → c ≡ table_done (table_ruling s t)
      from (no_rows z) = rw (eq-eqb m 0 z)
      from (no_record e z j) = rw (ne_eqb m 0 z, (table_exactly s (Err e)).1 j)
      from (no_axis es z j b) =
          rw (ne_eqb m 0 z, (table_exactly s (Ok es)).1 j, refuted (all_below m es) (λ e. b ((below_each m es).0 e)))
      from (full_row es k j b h e) = let z : m ≢ 0 = omega arith in
          rw (ne_eqb m 0 z, (table_exactly s (Ok es)).1 j, (below_each m es).1 b, full_at k h e)
      from (restored es z j b v) = rw (ne_eqb m 0 z, (table_exactly s (Ok es)).1 j, (below_each m es).1 b, all_empty_lem v)

-- A refused restore keeps every word.
pub unrestored_whole : (s t : List ℕ) {u : List ℕ} (e : Refusal) → TableRestores s t u (Err e) → u ≡ t
unrestored_whole s t {u} e w = go (table_ruling s t) refl
  where
    go : (a : Result (List Entry) Refusal) → table_ruling s t ≡ a → u ≡ t
    go (Ok es) q = absurd (let z : ◌≡◌ {A = ℕ} 0 1 = cc w.answer in omega arith)
    go (Err x) q = w.table ∙ rw q
