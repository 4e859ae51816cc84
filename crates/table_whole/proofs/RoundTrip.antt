-- Round trips of whole tables: what was saved is restored, and what was restored is saved again.
use Rattle.std.specs.Prelude.{Result, Option, Ok, Err, Some, None}
use mathlib.Core.Path.{◌≡◌, refl, sym, ap, ◌∙◌}
use mathlib.Core.Logic.{◌≢◌, inl, inr}
use mathlib.Core.Bool.{Bool, true, false, cond}
use mathlib.Core.List.{List, [], ◌∷◌, ◌++◌}
use Prim.Native.Nat.{ℕ, zero, suc, ◌≤◌, ◌<◌}
use native.Mathlib.Omega.{arith}
use borrow.Author.Tests.{eq-eqb, ne_eqb, eqb-true, eqb-false, le-leb, lt-ltb, le-ltb, ltb-true, ltb-false}
use lib.Dec.{eqb, ltb}
use lib.ListN.{length}
use Rattle.refusal.specs.declared.Refusal.{Refusal}
use Rattle.integers.proofs.Balance.{Decided, yes, no, test}
use Rattle.position.specs.Position.{word_of}
use Rattle.position.proofs.PositionLaws.{position_word, word_position}
use Rattle.axis.specs.Kind.{sampled_kind}
use Rattle.axis.specs.Limit.{most_axes}
use Rattle.axis.specs.Row.{axis_of, row_of, fresh_at}
use Rattle.axis.specs.declared.row.Row.{Row}
use Rattle.axis.proofs.TestLaws.{both}
use Rattle.axis_sound.specs.Sound.{status_of, passes}
use Rattle.axis_sound.specs.declared.Status.{Status}
use Rattle.axis_sound.specs.declared.Status.TheVariants.{Empty, Sampled, Counter, Broken}
use Rattle.axis_sound.proofs.SoundLaws.{status_exactly}
use Rattle.record_axis.specs.Limits.{within_limits}
use Rattle.record_axis.specs.declared.saved.Saved.{Saved}
use Rattle.record_axis.proofs.LimitsLaws.{within_parts}
use Rattle.record_entry.specs.declared.entry.Entry.{Entry}
use Rattle.record_table.specs.TableRecord.{Ascending, Tellable}
use Rattle.record_table.specs.Survey.{bound_of}
use Rattle.row_calls.specs.Change.{Holds}
use Rattle.row_calls.proofs.StatusLaws.{Live, live_position}
use Rattle.row_saving.specs.Saving.{saved_of, said_row}
use Rattle.row_saving.proofs.SaveLaws.{said_holds, saved_within}
use Rattle.table_rows.specs.Table.{axes_in, row_at}
use Rattle.table_rows.proofs.RowsLaws.{axes_fit, axes_most}
use Rattle.table_record.specs.Saving.{said_by, row_says, entry_of_row, entries_to, entries_in}
use Rattle.table_record.specs.Restoring.{all_below, all_empty, filled}
use Rattle.table_whole.specs.Share.{last_said, row_said}
use Rattle.table_record.proofs.SizeLaws.{entries_few}
use Rattle.table_whole.proofs.ShareLaws.{filled_row}
use Rattle.table_record.proofs.RestoringLaws.{empty_each, filled_length, below_bound}

-- ---- what a row says

-- A row that a record says adds what the record says.
said_says : (s : Saved) → within_limits s ≡ true → row_says (said_row s) ≡ Ok (Some s)
unfolding row_says
said_says s w = go (sampled_kind s.config.kind) h.status
  where
    h : Holds (said_row s) (cond (sampled_kind s.config.kind) Sampled Counter) (fresh_at s.config (word_of s.position))
    h = said_holds s w

    same : saved_of (axis_of (said_row s)) ≡ s
    same = ap saved_of h.axis ∙ rw (position_word s.position (within_parts s w).1)

    go : (b : Bool) → status_of (said_row s) ≡ cond b Sampled Counter → said_by (saved_of (axis_of (said_row s))) (status_of (said_row s)) ≡ Ok (Some s)
    go true e = rw e (ap (λ (z : Saved). Ok (Some z)) same)
    go false e = rw e (ap (λ (z : Saved). Ok (Some z)) same)

-- An empty row adds nothing.
pub empty_says : (r : Row) → status_of r ≡ Empty → row_says r ≡ Ok None
unfolding row_says
empty_says r e = rw e

-- A sampled row and a counter add what a save of them alone says, within its limits.
live_says : (r : Row) (s : Saved) → row_says r ≡ Ok (Some s) → Live r × (s ≡ saved_of (axis_of r))
unfolding row_says
live_says r s = go (status_of r) refl
  where
    go : (q : Status) → status_of r ≡ q → said_by (saved_of (axis_of r)) q ≡ Ok (Some s) → Live r × (s ≡ saved_of (axis_of r))
    go Empty e k = let z : ◌≡◌ {A = ℕ} 0 1 = cc in absurd (omega arith)
    go Sampled e k = (inl e, cc)
    go Counter e k = (inr e, cc)
    go Broken e k = let z : ◌≡◌ {A = ℕ} 0 1 = cc in absurd (omega arith)

-- ---- the entries of a table ascend

bound_append : (least : ℕ) (es fs : List Entry) → bound_of least (es ++ fs) ≡ bound_of (bound_of least es) fs
unfolding bound_of
bound_append least [] fs = refl
bound_append least (e ∷ es) fs = bound_append (suc e.axis) es fs

rising_append : (least : ℕ) (es fs : List Entry) → Ascending least es → Ascending (bound_of least es) fs → Ascending least (es ++ fs)
unfolding bound_of
rising_append least [] fs a b = b
rising_append least (e ∷ es) fs a b = (a.0, a.1, a.2, rising_append (suc e.axis) es fs a.3 b)

-- The first number above those of the first rows is none of theirs.
bound_rows : (n : ℕ) (t : List ℕ) → bound_of 0 (entries_to n t) ≤ n
unfolding entries_to bound_of
bound_rows zero t = omega arith
bound_rows (suc k) t =
    rw (bound_append 0 (entries_to k t) (entry_of_row k (row_says (row_at t k)))) (go (row_says (row_at t k)) (bound_rows k t))
  where
    go : (x : Result (Option Saved) Refusal) → bound_of 0 (entries_to k t) ≤ k → bound_of (bound_of 0 (entries_to k t)) (entry_of_row k x) ≤ suc k
    go (Ok None) h = omega arith
    go (Ok (Some s)) h = omega arith
    go (Err q) h = omega arith

rising_rows : (n : ℕ) (t : List ℕ) → n ≤ 256 → Ascending 0 (entries_to n t)
unfolding entries_to
rising_rows zero t h = tt
rising_rows (suc k) t h =
    rising_append 0 (entries_to k t) (entry_of_row k (row_says (row_at t k))) (rising_rows k t (omega arith)) (go (row_says (row_at t k)) refl)
  where
    go : (x : Result (Option Saved) Refusal) → row_says (row_at t k) ≡ x → Ascending (bound_of 0 (entries_to k t)) (entry_of_row k x)
    go (Ok None) e = tt
    go (Ok (Some s)) e =
        let l = live_says (row_at t k) s e in
        (bound_rows k t, omega arith, rw l.1 (saved_within (row_at t k) l.0), tt)
    go (Err q) e = tt

-- What a table saves can be told, and its axes are below its number of rows.
pub saved_tellable : (t : List ℕ) → Tellable (entries_in t)
unfolding most_axes
saved_tellable t =
    let m = axes_most (length t) in
    record {
      few = omega (arith, entries_few (axes_in (length t)) t, m);
      rising = rising_rows (axes_in (length t)) t (omega (arith, m));
    }

pub saved_below : (t : List ℕ) (n : ℕ) → axes_in (length t) ≤ n → all_below n (entries_in t) ≡ true
saved_below t n h =
    below_bound n (entries_in t) (saved_tellable t).rising
    ∙ le-leb (bound_of 0 (entries_in t)) n (omega (arith, bound_rows (axes_in (length t)) t))

-- ---- what was saved is restored

said_append : (k : ℕ) (es fs : List Entry) (r : Row) → row_said k (es ++ fs) r ≡ row_said k fs (row_said k es r)
unfolding last_said
said_append k [] fs r = refl
said_append k (e ∷ es) fs r = said_append k es fs (cond (eqb e.axis k) (said_row e.saved) r)

-- The row that what a row adds is put as.
abbrev pub put_as : Result (Option Saved) Refusal → Row → Row
put_as (Ok None) r = r
put_as (Ok (Some s)) r = said_row s
put_as (Err q) r = r

-- An entry of row j is put there, and nowhere else.
entry_there : (k : ℕ) (x : Result (Option Saved) Refusal) (r : Row) → row_said k (entry_of_row k x) r ≡ put_as x r
unfolding last_said
entry_there k (Ok None) r = refl
entry_there k (Ok (Some s)) r = rw (eq-eqb k k refl)
entry_there k (Err q) r = refl

entry_else : (k j : ℕ) (x : Result (Option Saved) Refusal) (r : Row) → j ≢ k → row_said k (entry_of_row j x) r ≡ r
unfolding last_said
entry_else k j (Ok None) r d = refl
entry_else k j (Ok (Some s)) r d = rw (ne_eqb j k d)
entry_else k j (Err q) r d = refl

-- Of the entries of the first n rows, row k's own is what is put there.
rows_said : (n k : ℕ) (t : List ℕ) (r : Row) → row_said k (entries_to n t) r ≡ cond (ltb k n) (put_as (row_says (row_at t k)) r) r
unfolding entries_to last_said
rows_said zero k t r = rw (le-ltb k 0 (omega arith))
rows_said (suc n) k t r =
    said_append k (entries_to n t) (entry_of_row n (row_says (row_at t n))) r ∙ go (test (eqb n k)) (rows_said n k t r)
  where
    go : Decided (eqb n k) → row_said k (entries_to n t) r ≡ cond (ltb k n) (put_as (row_says (row_at t k)) r) r →
        row_said k (entry_of_row n (row_says (row_at t n))) (row_said k (entries_to n t) r)
        ≡ cond (ltb k (suc n)) (put_as (row_says (row_at t k)) r) r
    go (yes e) less =
        let q = eqb-true n k e in
        let none = rw (le-ltb k n (omega arith)) at less in
        rw (lt-ltb k (suc n) (omega arith), none, q) (entry_there k (row_says (row_at t k)) r)
    go (no e) less =
        let d = eqb-false n k e in
        entry_else k n (row_says (row_at t n)) (row_said k (entries_to n t) r) d ∙ less ∙ side (test (ltb k n)) d
      where
        side : Decided (ltb k n) → n ≢ k →
            cond (ltb k n) (put_as (row_says (row_at t k)) r) r ≡ cond (ltb k (suc n)) (put_as (row_says (row_at t k)) r) r
        side (yes l) d = let h = ltb-true k n l in rw (l, lt-ltb k (suc n) (omega arith))
        side (no l) d = let h = ltb-false k n l in rw (l, le-ltb k (suc n) (omega arith))

-- A table that is filled with what another saves has in row k what row k there says.
pub restored_row : (t u : List ℕ) (k : ℕ) → k < axes_in (length t) → k < axes_in (length u) →
    row_at (filled u (entries_in t)) k ≡ put_as (row_says (row_at t k)) (row_at u k)
restored_row t u k h l =
    filled_row k u (entries_in t) (omega (arith, axes_fit (length u)))
    ∙ rows_said (axes_in (length t)) k t (row_at u k)
    ∙ rw (lt-ltb k (axes_in (length t)) h)

-- A row beyond those of the table that was saved stays.
pub beyond_row : (t u : List ℕ) (k : ℕ) → axes_in (length t) ≤ k → k < axes_in (length u) → row_at (filled u (entries_in t)) k ≡ row_at u k
beyond_row t u k h l =
    filled_row k u (entries_in t) (omega (arith, axes_fit (length u)))
    ∙ rows_said (axes_in (length t)) k t (row_at u k)
    ∙ rw (le-ltb k (axes_in (length t)) h)

-- A live row is put as the row with its configuration and its position, all else 0.
pub live_put : (r q : Row) → Live r → put_as (row_says r) q ≡ row_of (fresh_at (axis_of r).config (axis_of r).word)
unfolding row_says
live_put r q l = go l
  where
    back : said_row (saved_of (axis_of r)) ≡ row_of (fresh_at (axis_of r).config (axis_of r).word)
    back = rw (word_position (axis_of r).word (live_position r l))

    go : Live r → put_as (said_by (saved_of (axis_of r)) (status_of r)) q ≡ row_of (fresh_at (axis_of r).config (axis_of r).word)
    go (inl e) = rw e back
    go (inr e) = rw e back

-- ---- what was restored is saved again

-- Of some axes those with a number below k.
unfoldable up_to : ℕ → List Entry → List Entry
up_to k [] = []
up_to k (e ∷ es) = cond (ltb e.axis k) (e ∷ up_to k es) (up_to k es)

none_below : (k least : ℕ) (es : List Entry) → Ascending least es → k ≤ least → up_to k es ≡ []
unfolding up_to
none_below k least [] a h = refl
none_below k least (e ∷ es) a h =
    rw (le-ltb e.axis k (omega (arith, a.0))) (none_below k (suc e.axis) es a.3 (omega (arith, a.0)))

none_said : (k least : ℕ) (es : List Entry) (r : Row) → Ascending least es → k < least → row_said k es r ≡ r
unfolding last_said
none_said k least [] r a h = refl
none_said k least (e ∷ es) r a h =
    let d : e.axis ≢ k = λ q. omega (arith, a.0) in
    rw (ne_eqb e.axis k d) (none_said k (suc e.axis) es r a.3 (omega (arith, a.0)))

-- One number more: the entry that is put in an empty row k, if there is one.
up_next : (k least : ℕ) (es : List Entry) (r : Row) → Ascending least es → row_says r ≡ Ok None →
    up_to (suc k) es ≡ up_to k es ++ entry_of_row k (row_says (row_said k es r))
unfolding up_to last_said
up_next k least [] r a e = rw e
up_next k least (x ∷ es) r a e = go (test (ltb x.axis k)) (test (eqb x.axis k)) (up_next k (suc x.axis) es r a.3 e)
  where
    here : x.axis ≡ k → record { axis = k; saved = x.saved } ≡ x
    here q = rw (← q)

    go : Decided (ltb x.axis k) → Decided (eqb x.axis k) →
        up_to (suc k) es ≡ up_to k es ++ entry_of_row k (row_says (row_said k es r)) →
        cond (ltb x.axis (suc k)) (x ∷ up_to (suc k) es) (up_to (suc k) es)
        ≡ cond (ltb x.axis k) (x ∷ up_to k es) (up_to k es)
        ++ entry_of_row k (row_says (row_said k es (cond (eqb x.axis k) (said_row x.saved) r)))
    go (yes l) d more =
        let h = ltb-true x.axis k l in
        let ne : x.axis ≢ k = λ q. omega arith in
        rw (lt-ltb x.axis (suc k) (omega arith), l, ne_eqb x.axis k ne) (ap (λ (z : List Entry). x ∷ z) more)
    go (no l) (yes q) more =
        let same = eqb-true x.axis k q in
        let said = none_said k (suc x.axis) es (said_row x.saved) a.3 (omega arith) in
        rw (
          lt-ltb x.axis (suc k) (omega arith),
          l,
          q,
          said,
          said_says x.saved a.2,
          none_below k (suc x.axis) es a.3 (omega arith),
          none_below (suc k) (suc x.axis) es a.3 (omega arith),
          here same,
        )
    go (no l) (no q) more =
        let h = ltb-false x.axis k l in
        let d = eqb-false x.axis k q in
        rw (le-ltb x.axis (suc k) (omega arith), l, q) more

up_all : (n : ℕ) (es : List Entry) → all_below n es ≡ true → up_to n es ≡ es
unfolding up_to all_below
up_all n [] b = refl
up_all n (e ∷ es) b =
    let p = both (ltb e.axis n) (all_below n es) b in
    rw p.0 (ap (λ (z : List Entry). e ∷ z) (up_all n es p.1))

-- The entries of a table of empty rows that is filled are those that filled it.
module _ (u : List ℕ) (es : List Entry) (a : Ascending 0 es) (empty : all_empty (axes_in (length u)) u ≡ true) where
  filled_to : (k : ℕ) → k ≤ axes_in (length u) → entries_to k (filled u es) ≡ up_to k es
  unfolding entries_to passes
  filled_to zero h = sym (none_below 0 0 es a (omega arith))
  filled_to (suc k) h =
      let vacant = (status_exactly Empty (row_at u k)).1 (empty_each (axes_in (length u)) k u empty (omega arith)) in
      rw (filled_to k (omega arith), filled_row k u es (omega (arith, axes_fit (length u))))
      (sym (up_next k 0 es (row_at u k) a (empty_says (row_at u k) vacant)))

  pub filled_entries : all_below (axes_in (length u)) es ≡ true → entries_in (filled u es) ≡ es
  filled_entries b =
      rw (filled_length u es) (filled_to (axes_in (length u)) (omega arith) ∙ up_all (axes_in (length u)) es b)
