-- A whole-table restore, axis by axis: the row that it leaves and what it answers are those of the axis's own share.
use Rattle.std.specs.Prelude.{Ok, Err, Result, is_err}
use mathlib.Core.Path.{◌≡◌, refl, sym, ap, ◌∙◌, subst}
use mathlib.Core.Logic.{◌≢◌, ◌↔◌}
use mathlib.Core.Bool.{Bool, true, false, not, cond, ◌&&◌, ◌||◌, true≢false}
use mathlib.Core.List.{List, [], ◌∷◌}
use Prim.Native.Nat.{ℕ, ◌+◌, ◌*◌, ◌≤◌, ◌<◌}
use native.Mathlib.Omega.{arith}
use borrow.Author.Tests.{not-true, not-false, eq-eqb, ne_eqb, eqb-true, eqb-false}
use lib.Dec.{eqb}
use lib.ListN.{length}
use Rattle.integers.proofs.Balance.{Decided, yes, no, test}
use Rattle.refusal.specs.declared.Refusal.{Refusal}
use Rattle.refusal.specs.declared.Refusal.TheVariants.{Axis, Occupied}
use Rattle.axis.specs.declared.row.Row.{Row}
use Rattle.axis.proofs.TestLaws.{both, same_test}
use Rattle.axis_sound.specs.Sound.{is_empty, status_of}
use Rattle.axis_sound.specs.declared.Status.TheVariants.{Empty}
use Rattle.record_axis.specs.Limits.{within_limits}
use Rattle.record_axis.specs.declared.saved.Saved.{Saved}
use Rattle.record_table.proofs.RoundTrip.{Limited}
use Rattle.record_entry.specs.declared.entry.Entry.{Entry}
use Rattle.record_table.specs.TableRecord.{table_read_as}
use Rattle.row_saving.specs.Saving.{said_row}
use Rattle.row_calls.proofs.SetupLaws.{not_zero}
use Rattle.row_calls.specs.Answer.{done_of}
use Rattle.row_calls.specs.Calls.{left_by}
use Rattle.table_rows.specs.Table.{axes_in, row_at, set_row}
use Rattle.table_rows.proofs.RowsLaws.{axes_fit, length_set_row, row_same, row_other}
use Rattle.table_record.specs.Restoring.{all_below, all_empty, filled, ruling_on, table_ruling, table_done, table_left, TableRestores}
use Rattle.table_whole.specs.Share.{Share, last_said, row_said, mentions, SaysOf, here, later, shared_by, share_row, others_full, share_of, refuses_table}
use Rattle.table_record.proofs.AnyRowLaws.{none_passes}
use Rattle.table_record.proofs.RestoringLaws.{empty_not, empty_each, empty_all}

-- ---- rows other than one

-- Another row is full exactly where there is one that is not empty.
pub others_exactly : (k n : ℕ) (t : List ℕ) → (others_full k n t ≡ false) ↔ ((j : ℕ) → j < n → j ≢ k → is_empty (row_at t j) ≡ true)
others_exactly k n t = (
  λ o j h d. not-false _ (rw (ne_eqb j k d) at (none.0 o j h)),
  λ f. none.1 (λ j h. go j (f j h) (test (eqb j k))),
)
  where
    none : (others_full k n t ≡ false) ↔ ((j : ℕ) → j < n → (not (eqb j k) && not (is_empty (row_at t j))) ≡ false)
    none = none_passes (λ j r. not (eqb j k) && not (is_empty r)) n t

    go : (j : ℕ) → (j ≢ k → is_empty (row_at t j) ≡ true) → Decided (eqb j k) → (not (eqb j k) && not (is_empty (row_at t j))) ≡ false
    go j f (yes q) = rw q
    go j f (no q) = rw (q, f (eqb-false j k q))

module _ (k : ℕ) (t : List ℕ) (n : ℕ) (h : k < n) where
  -- All rows are empty exactly where the others are and row k is.
  pub empty_share : all_empty n t ≡ (not (others_full k n t) && is_empty (row_at t k))
  empty_share = same_test _ _ to from
    where
      to : all_empty n t ≡ true → (not (others_full k n t) && is_empty (row_at t k)) ≡ true
      to a = rw ((others_exactly k n t).1 (λ j l d. empty_each n j t a l), empty_each n k t a h)

      each : is_empty (row_at t k) ≡ true → others_full k n t ≡ false → (j : ℕ) → j < n → Decided (eqb j k) → is_empty (row_at t j) ≡ true
      each own o j l (yes e) = rw (eqb-true j k e) own
      each own o j l (no e) = (others_exactly k n t).0 o j l (eqb-false j k e)

      from : (not (others_full k n t) && is_empty (row_at t k)) ≡ true → all_empty n t ≡ true
      from b =
          let p = both (not (others_full k n t)) (is_empty (row_at t k)) b in
          empty_all n t (λ j l. each p.1 (not-true _ p.0) j l (test (eqb j k)))

-- ---- the row

-- The row of axis k in a table that is filled is what the entries say of it.
pub filled_row : (k : ℕ) (t : List ℕ) (es : List Entry) → k * 4 + 4 ≤ length t → row_at (filled t es) k ≡ row_said k es (row_at t k)
unfolding filled last_said
filled_row k t [] h = refl
filled_row k t (e ∷ es) h =
    filled_row k (set_row t e.axis (said_row e.saved)) es (rw (length_set_row t e.axis (said_row e.saved)) h)
    ∙ ap (row_said k es) (go (test (eqb e.axis k)))
  where
    go : Decided (eqb e.axis k) → row_at (set_row t e.axis (said_row e.saved)) k ≡ cond (eqb e.axis k) (said_row e.saved)
        (row_at t k)
    go (yes q) = rw (q, eqb-true e.axis k q) (row_same t k (said_row e.saved) h)
    go (no q) = rw q (row_other t e.axis k (said_row e.saved) (λ f. eqb-false e.axis k q (sym f)))

-- ---- the call, for axis k of a table that has it

module _ (k : ℕ) (t : List ℕ) (h : k < axes_in (length t)) (s : List ℕ) where
  abbrev n : ℕ
  n = axes_in (length t)

  abbrev share : Share
  share = share_of k t s

  -- what is read comes to the same for the table and for the axis
  ruled : (a : Result (List Entry) Refusal) →
      (table_done (ruling_on n t a) ≡ done_of (shared_by share a (row_at t k)))
      × (row_at (table_left t (ruling_on n t a)) k ≡ left_by (row_at t k) (shared_by share a (row_at t k)))
  ruled (Err e) = (refl, refl)
  ruled (Ok es) = rw (empty_share k t n h) (go (all_below n es) (others_full k n t) (is_empty (row_at t k)))
    where
      fits : k * 4 + 4 ≤ length t
      fits = omega (arith, axes_fit (length t))

      go : (b o v : Bool) →
          (table_done (cond b (cond (not o && v) (Ok es) (Err Occupied)) (Err Axis))
          ≡ done_of (cond b (cond o (Err Occupied) (cond v (Ok (row_said k es (row_at t k))) (Err Occupied))) (Err Axis)))
          × (row_at (table_left t (cond b (cond (not o && v) (Ok es) (Err Occupied)) (Err Axis))) k
          ≡ left_by (row_at t k) (cond b (cond o (Err Occupied) (cond v (Ok (row_said k es (row_at t k))) (Err Occupied))) (Err Axis)))
      go false o v = (refl, refl)
      go true true v = (refl, refl)
      go true false false = (refl, refl)
      go true false true = (refl, filled_row k t es fits)

  ruling_is : table_ruling s t ≡ ruling_on n t (table_read_as s)
  unfolding table_ruling
  ruling_is = let z : n ≢ 0 = omega arith in rw (ne_eqb n 0 z)

  -- A whole-table restore answers what axis k's own share of it does.
  pub share_answer : table_done (table_ruling s t) ≡ done_of (share_row share (row_at t k))
  unfolding share_row
  share_answer = ap table_done ruling_is ∙ (ruled (table_read_as s)).0

  -- It leaves axis k the row that its own share makes.
  pub share_row_lem : row_at (table_left t (table_ruling s t)) k ≡ left_by (row_at t k) (share_row share (row_at t k))
  unfolding share_row
  share_row_lem = ap (λ (a : Result (List Entry) Refusal). row_at (table_left t a) k) ruling_is ∙ (ruled (table_read_as s)).1

  -- To the axis it is all one whether it is told that another row was not empty or that the call was refused.
  pub share_refused :
      share_row share (row_at t k) ≡ share_row (record { axis = k; axes = n; bytes = s; others = refuses_table t s }) (row_at t k)
  unfolding share_row
  share_refused = rw ruling_is (read (table_read_as s))
    where
      read : (a : Result (List Entry) Refusal) →
          shared_by share a (row_at t k)
          ≡ shared_by (record { axis = k; axes = n; bytes = s; others = is_err (ruling_on n t a) }) a (row_at t k)
      read (Err e) = refl
      read (Ok es) = rw (empty_share k t n h) (go (all_below n es) (others_full k n t) (is_empty (row_at t k)))
        where
          go : (b o v : Bool) →
              cond b (cond o (Err Occupied) (cond v (Ok (row_said k es (row_at t k))) (Err Occupied))) (Err Axis)
              ≡ cond b
              (cond (is_err (cond b (cond (not o && v) (Ok es) (Err Occupied)) (Err Axis))) (Err Occupied)
              (cond v (Ok (row_said k es (row_at t k))) (Err Occupied)))
              (Err Axis)
          go false o v = refl
          go true true v = refl
          go true false true = refl
          go true false false = refl

-- ---- a row that is not empty

-- What a whole-table restore of a record that is read is refused for where a row is not empty.
abbrev pub reason_in : ℕ → Result (List Entry) Refusal → Refusal
reason_in n (Ok es) = cond (all_below n es) Occupied Axis
reason_in n (Err e) = e

-- It is refused for that, whatever the others are.
pub share_full : (w : Share) (r : Row) → (status_of r ≡ Empty → ⊥) → share_row w r ≡ Err (reason_in w.axes (table_read_as w.bytes))
unfolding share_row
share_full w r full = go (table_read_as w.bytes)
  where
    say : (es : List Entry) (b o : Bool) →
        cond b (cond o (Err Occupied) (cond false (Ok (row_said w.axis es r)) (Err Occupied))) (Err Axis) ≡ Err (cond b Occupied Axis)
    say es false o = refl
    say es true true = refl
    say es true false = refl

    go : (a : Result (List Entry) Refusal) → shared_by w a r ≡ Err (reason_in w.axes a)
    go (Err e) = refl
    go (Ok es) = rw (not_zero r full) (say es (all_below w.axes es) w.others)

-- So is the restore of a table in which it stands, and every word stays.
pub full_ruling : (k : ℕ) (t : List ℕ) → k < axes_in (length t) → (s : List ℕ) → (status_of (row_at t k) ≡ Empty → ⊥) →
    table_ruling s t ≡ Err (reason_in (axes_in (length t)) (table_read_as s))
full_ruling k t h s full = ruling_is k t h s ∙ go (table_read_as s)
  where
    go : (a : Result (List Entry) Refusal) → ruling_on (axes_in (length t)) t a ≡ Err (reason_in (axes_in (length t)) a)
    go (Err e) = refl
    go (Ok es) = rw (empty_not (axes_in (length t)) k t h (not_zero (row_at t k) full)) (say (all_below (axes_in (length t)) es))
      where
        say : (b : Bool) → cond b (cond false (Ok es) (Err Occupied)) (Err Axis) ≡ Err (cond b Occupied Axis)
        say true = refl
        say false = refl

-- ---- what is put in a row

-- Of an axis that is not mentioned nothing is put.
pub unsaid_is : {A : Type 0} (k : ℕ) (put : Saved → A) (es : List Entry) (x : A) → mentions k es ≡ false → last_said k put es x ≡ x
unfolding last_said mentions
unsaid_is k put [] x n = refl
unsaid_is k put (e ∷ es) x n = go (test (eqb e.axis k)) n (unsaid_is k put es x)
  where
    go : Decided (eqb e.axis k) → (eqb e.axis k || mentions k es) ≡ false → (mentions k es ≡ false → last_said k put es x ≡ x) →
        last_said k put es (cond (eqb e.axis k) (put e.saved) x) ≡ x
    go (yes q) m more = absurd (true≢false (rw q at m))
    go (no q) m more = rw q (more (rw q at m))

-- One that is said is put.
pub said_is : {A : Type 0} (k : ℕ) (put : Saved → A) (y : Saved) (es : List Entry) (x : A) → SaysOf k y es → last_said k put es x ≡ put y
unfolding last_said
said_is k put y _ x (here {es} n) = rw (eq-eqb k k refl) (unsaid_is k put es (put y) n)
said_is k put y _ x (later {e} {es} s) = said_is k put y es (cond (eqb e.axis k) (put e.saved) x) s

-- An axis that is mentioned is said to be something.
pub said_some : (k : ℕ) (es : List Entry) → mentions k es ≡ true → (x : Saved) × SaysOf k x es
unfolding mentions
said_some k [] m = absurd (true≢false (sym m))
said_some k (e ∷ es) m = go (test (mentions k es)) (test (eqb e.axis k)) (said_some k es) m
  where
    go : Decided (mentions k es) → Decided (eqb e.axis k) → (mentions k es ≡ true → (x : Saved) × SaysOf k x es) →
        (eqb e.axis k || mentions k es) ≡ true → (x : Saved) × SaysOf k x (e ∷ es)
    go (yes q) d more m = let s = more q in (s.0, later s.1)
    go (no q) (yes d) more m =
        let same : record { axis = k; saved = e.saved } ≡ e = rw (← (eqb-true e.axis k d)) in
        (e.saved, subst (λ (f : Entry). SaysOf k e.saved (f ∷ es)) same (here q))
    go (no q) (no d) more m = absurd (true≢false (sym (rw (d, q) at m)))

-- What is said of one is within its limits.
pub says_within : (k : ℕ) (x : Saved) (es : List Entry) → Limited es → SaysOf k x es → within_limits x ≡ true
says_within k x _ l (here n) = l.0
says_within k x _ l (later {e} {es} s) = says_within k x es l.1 s

-- ---- refused, and done

-- What a restore is refused for goes by the record and the number of axes alone.
pub refused_reason : (s t : List ℕ) {u : List ℕ} (e : Refusal) → axes_in (length t) ≢ 0 → TableRestores s t u (Err e) →
    (table_ruling s t ≡ Err e) × (e ≡ reason_in (axes_in (length t)) (table_read_as s))
unfolding table_ruling
refused_reason s t e some w =
    let q = sym w.answer in
    rw (ne_eqb (axes_in (length t)) 0 some) (go (table_read_as s) (rw (ne_eqb (axes_in (length t)) 0 some) at q))
  where
    n : ℕ
    n = axes_in (length t)

    say : (es : List Entry) (b v : Bool) →
        table_done (cond b (cond v (Ok es) (Err Occupied)) (Err Axis)) ≡ Err e →
        (cond b (cond v (Ok es) (Err Occupied)) (Err Axis) ≡ Err e) × (e ≡ cond b Occupied Axis)
    say es true true q = absurd (let z : ◌≡◌ {A = ℕ} 0 1 = cc in omega arith)
    say es true false q = (ap Err cc, cc)
    say es false v q = (ap Err cc, cc)

    go : (a : Result (List Entry) Refusal) → table_done (ruling_on n t a) ≡ Err e → (ruling_on n t a ≡ Err e) × (e ≡ reason_in n a)
    go (Err x) q = (ap Err cc, cc)
    go (Ok es) q = say es (all_below n es) (all_empty n t) q

-- A restore that is done puts some axes.
pub done_says : (s t : List ℕ) {u : List ℕ} → TableRestores s t u (Ok tt) → (es : List Entry) × (table_ruling s t ≡ Ok es) × (u ≡ filled t es)
done_says s t {u} w = go (table_ruling s t) refl
  where
    go : (a : Result (List Entry) Refusal) → table_ruling s t ≡ a → (es : List Entry) × (table_ruling s t ≡ Ok es) × (u ≡ filled t es)
    go (Ok es) q = (es, q, w.table ∙ rw q)
    go (Err e) q = absurd (let z : ◌≡◌ {A = ℕ} 0 1 = cc w.answer in omega arith)
