-- The laws of a whole-table restore: what it answers and leaves, by its checks.
use Rattle.std.specs.Prelude.{Ok, Err, Result}
use mathlib.Core.Path.{◌≡◌, refl, sym, ap, ◌∙◌}
use mathlib.Core.Logic.{◌≢◌}
use mathlib.Core.Bool.{Bool, true, false, not, ◌&&◌, and-true, and-false}
use mathlib.Core.List.{List, [], ◌∷◌}
use Prim.Native.Nat.{ℕ, suc, ◌<◌}
use native.Mathlib.Nat.{zero-add}
use native.Mathlib.Omega.{arith}
use borrow.Author.Tests.{not-true, not-false, eq-eqb, ne_eqb, le-leb, lt-leb, ltb-true, ltb-false}
use lib.Dec.{leb, ltb}
use lib.ListN.{length}
use Rattle.std.specs.Bool.{MatchBool}
use Rattle.std.specs.List.{AllWithin, HoldsAt, range_with_len}
use Rattle.std.proofs.lemmas.List.FromFn.{length-range_with_len, get_or-range_with_len}
use Rattle.integers.proofs.Balance.{Decided, yes, no, test}
use Rattle.refusal.specs.declared.Refusal.{Refusal}
use Rattle.refusal.specs.declared.Refusal.TheVariants.{Length, Axis, Occupied}
use Rattle.axis_sound.specs.Sound.{is_empty}
use Rattle.record_entry.specs.declared.entry.Entry.{Entry}
use Rattle.record_table.specs.TableRecord.{table_read_as, Ascending}
use Rattle.record_table.specs.Survey.{bound_of}
use Rattle.row_saving.specs.Saving.{said_row}
use Rattle.table_rows.specs.Table.{axes_in, row_at, set_row}
use Rattle.table_rows.proofs.RowsLaws.{length_set_row}
use Rattle.table_record.proofs.AnyRowLaws.{any_row_lem, none_passes}
use Rattle.table_record.specs.Restoring.{all_below, is_full, all_empty, filled, table_ruling, table_left, TableRestores}

-- ---- rows that are all empty

-- Where they all are, each is.
pub empty_each : (n k : ℕ) (t : List ℕ) → all_empty n t ≡ true → k < n → is_empty (row_at t k) ≡ true
empty_each n k t a h = not-false _ ((none_passes is_full n t).0 (not-true _ a) k h)

-- Where each is, they all are.
pub empty_all : (n : ℕ) (t : List ℕ) → ((k : ℕ) → k < n → is_empty (row_at t k) ≡ true) → all_empty n t ≡ true
empty_all n t f = ap not ((none_passes is_full n t).1 (λ k h. ap not (f k h)))

-- A row that is not is one too many.
pub empty_not : (n k : ℕ) (t : List ℕ) → k < n → is_empty (row_at t k) ≡ false → all_empty n t ≡ false
empty_not n k t h e = ap not (any_row_lem is_full n k t h (ap not e))

-- An answer that speaks of each number in turn, that its row is empty, or of one whose row is not.
pub empty_by : (n : ℕ) (t : List ℕ) (r : Bool) →
    MatchBool r (AllWithin (λ k. is_empty (row_at t k) ≡ true) (range_with_len 0 n) 0 (length (range_with_len 0 n)))
    ((k : ℕ) × (k < length (range_with_len 0 n)) × HoldsAt (λ k. is_empty (row_at t k) ≡ false) (range_with_len 0 n) k) →
    r ≡ all_empty n t
empty_by n t true h =
    sym (empty_all n t (λ k l. rw (get_or-range_with_len 0 n k 0 l, zero-add) at
    (h k 0 (omega arith) (omega (arith, length-range_with_len 0 n)))))
empty_by n t false h =
    let l : h.0 < n = omega (arith, h.1, length-range_with_len 0 n) in
    sym (empty_not n h.0 t l (rw (get_or-range_with_len 0 n h.0 0 l, zero-add) at (h.2 0)))

-- ---- numbers below n

-- Of ascending axes the last number decides.
bound_is : (n least : ℕ) (es : List Entry) → Ascending least es → (leb least n && all_below n es) ≡ leb (bound_of least es) n
unfolding all_below bound_of
bound_is n least [] a = and-true (leb least n)
bound_is n least (e ∷ es) a = go (test (ltb e.axis n)) (bound_is n (suc e.axis) es a.3)
  where
    go : Decided (ltb e.axis n) → (leb (suc e.axis) n && all_below n es) ≡ leb (bound_of (suc e.axis) es) n →
        (leb least n && (ltb e.axis n && all_below n es)) ≡ leb (bound_of (suc e.axis) es) n
    go (yes l) more =
        let h = ltb-true e.axis n l in
        rw (l, le-leb least n (omega (arith, a.0))) (rw (le-leb (suc e.axis) n (omega arith)) at more)
    go (no l) more =
        let h = ltb-false e.axis n l in
        rw (l, and-false (leb least n)) (rw (lt-leb (suc e.axis) n (omega arith)) at more)

pub below_bound : (n : ℕ) (es : List Entry) → Ascending 0 es → all_below n es ≡ leb (bound_of 0 es) n
below_bound n es a = rw (le-leb 0 n (omega arith)) at (bound_is n 0 es a)

-- ---- the table

-- A table keeps its length.
pub filled_length : (t : List ℕ) (es : List Entry) → length (filled t es) ≡ length t
unfolding filled
filled_length t [] = refl
filled_length t (e ∷ es) = filled_length (set_row t e.axis (said_row e.saved)) es ∙ length_set_row t e.axis (said_row e.saved)

pub left_length : (t : List ℕ) (a : Result (List Entry) Refusal) → length (table_left t a) ≡ length t
left_length t (Ok es) = filled_length t es
left_length t (Err e) = refl

-- ---- the ways out

module _ (s t : List ℕ) where
  -- A slice that holds no axis.
  pub restore_none : axes_in (length t) ≡ 0 → TableRestores s t t (Err Length)
  unfolding table_ruling
  restore_none e = let n = eq-eqb (axes_in (length t)) 0 e in record { answer = rw n; table = rw n }

  module _ (some : axes_in (length t) ≢ 0) where
    -- A record that is refused.
    pub restore_unread : (e : Refusal) → table_read_as s ≡ Err e → TableRestores s t t (Err e)
    unfolding table_ruling
    restore_unread e h = let n = ne_eqb (axes_in (length t)) 0 some in record { answer = rw (n, h); table = rw (n, h) }

    module _ (es : List Entry) (h : table_read_as s ≡ Ok es) where
      -- An axis that is not there.
      pub restore_past : all_below (axes_in (length t)) es ≡ false → TableRestores s t t (Err Axis)
      unfolding table_ruling
      restore_past b = let n = ne_eqb (axes_in (length t)) 0 some in record { answer = rw (n, h, b); table = rw (n, h, b) }

      module _ (b : all_below (axes_in (length t)) es ≡ true) where
        -- A row that is not empty.
        pub restore_full : all_empty (axes_in (length t)) t ≡ false → TableRestores s t t (Err Occupied)
        unfolding table_ruling
        restore_full a = let n = ne_eqb (axes_in (length t)) 0 some in record { answer = rw (n, h, b, a); table = rw (n, h, b, a) }

        -- Every row is empty, and there is one for each axis.
        pub restore_fills : all_empty (axes_in (length t)) t ≡ true → TableRestores s t (filled t es) (Ok tt)
        unfolding table_ruling
        restore_fills a = let n = ne_eqb (axes_in (length t)) 0 some in record { answer = rw (n, h, b, a); table = rw (n, h, b, a) }
