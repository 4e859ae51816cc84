-- The laws of a table's entries, row by row: how many they are, and how long.
use Rattle.std.specs.Prelude.{Result, Option, Ok, Err, Some, None}
use mathlib.Core.Path.{◌≡◌, refl, sym, ap, ◌∙◌}
use mathlib.Core.Bool.{Bool, false, ◌||◌, or-true, or-false}
use mathlib.Core.List.{List, [], ◌∷◌, ◌++◌, append-nil}
use Prim.Native.Nat.{ℕ, zero, suc, ◌+◌, ◌*◌, ◌≤◌}
use native.Mathlib.Nat.{add-zero}
use native.Mathlib.Numerals.{add-one}
use native.Mathlib.Omega.{arith}
use borrow.Author.Tests.{leb-true, leb-false}
use lib.Dec.{leb}
use lib.ListN.{length, length-append}
use Rattle.integers.proofs.Balance.{Decided, yes, no, test}
use Rattle.axis.specs.Row.{axis_of}
use Rattle.axis_sound.specs.Sound.{status_of}
use Rattle.axis_sound.specs.declared.Status.{Status}
use Rattle.axis_sound.specs.declared.Status.TheVariants.{Empty, Sampled, Counter, Broken}
use Rattle.axis_open.specs.Open.{broken_by}
use Rattle.tagged.specs.Store.{Puts}
use Rattle.tagged.proofs.StoreLaws.{puts_then}
use Rattle.record_axis.specs.AxisFields.{axis_length}
use Rattle.record_entry.specs.Entry.{entry_bytes}
use Rattle.record_entry.specs.declared.entry.Entry.{Entry}
use Rattle.record_entry.proofs.EntryLaws.{entry_long}
use Rattle.record_table.specs.TableRecord.{entries_bytes}
use Rattle.record_table.proofs.WriterLaws.{entries_append, entries_short}
use Rattle.row_saving.specs.Saving.{saved_of}
use Rattle.table_rows.specs.Table.{row_at}
use Rattle.table_record.specs.AnyRow.{any_row}
use Rattle.table_record.specs.Saving.{said_by, row_says, entry_of_row, entries_to, any_broken, size_with, size_to}
use Rattle.table_record.specs.declared.measure.Size.{Size}
use Rattle.record_axis.specs.declared.saved.Saved.{Saved}
use Rattle.refusal.specs.declared.Refusal.{Refusal}

-- A size by its three parts.
size_is : {c b d e : ℕ} {x y : Bool} → c ≡ d → b ≡ e → x ≡ y →
    ◌≡◌ {A = Size} (record { count = c; bytes = b; broken = x }) (record { count = d; bytes = e; broken = y })
size_is p q r = λ i. record { count = p i; bytes = q i; broken = r i }

-- How long one entry alone is.
pub one_long : (e : Entry) → length (entries_bytes (e ∷ [])) ≡ 4 + axis_length e.saved.config.kind
unfolding entries_bytes
one_long e = rw append-nil (entry_long e)

module _ (k : ℕ) (t : List ℕ) where
  -- the size with a row more, by what the row adds
  grows : (es : List Entry) (bad : Bool) (x : Result (Option Saved) Refusal) (worse : Bool) →
      (size_with (record { count = length es; bytes = length (entries_bytes es); broken = bad }) x).broken ≡ worse →
      size_with (record { count = length es; bytes = length (entries_bytes es); broken = bad }) x
      ≡ record { count = length (es ++ entry_of_row k x); bytes = length (entries_bytes (es ++ entry_of_row k x)); broken = worse }
  unfolding entries_bytes
  grows es bad (Ok None) worse e = rw append-nil (size_is refl refl e)
  grows es bad (Ok (Some s)) worse e =
      let entry : Entry = record { axis = k; saved = s } in
      size_is
      (omega (arith, length-append es (entry ∷ [])))
      (omega (
        arith,
        ap length (entries_append es (entry ∷ [])),
        length-append (entries_bytes es) (entries_bytes
            (entry ∷ [])),
        one_long entry,
      ))
      e
  grows es bad (Err r) worse e = rw append-nil (size_is refl refl e)

  -- A size with the next row is that of one row more.
  pub size_next : size_with (size_to k t) (row_says (row_at t k)) ≡ size_to (k + 1) t
  unfolding size_to entries_to any_row row_says
  size_next = rw add-one (go (status_of (row_at t k)))
    where
      x : Status → Result (Option Saved) Refusal
      x s = said_by (saved_of (axis_of (row_at t k))) s

      go : (s : Status) →
          size_with (record { count = length (entries_to k t); bytes = length (entries_bytes (entries_to k t)); broken = any_broken k t }) (x s)
          ≡ record {
            count = length (entries_to k t ++ entry_of_row k (x s));
            bytes = length (entries_bytes (entries_to k t ++ entry_of_row k (x s)));
            broken = any_broken k t || broken_by s;
          }
      go Empty = grows (entries_to k t) (any_broken k t) (x Empty) _ (sym (or-false (any_broken k t)))
      go Sampled = grows (entries_to k t) (any_broken k t) (x Sampled) _ (sym (or-false (any_broken k t)))
      go Counter = grows (entries_to k t) (any_broken k t) (x Counter) _ (sym (or-false (any_broken k t)))
      go Broken = grows (entries_to k t) (any_broken k t) (x Broken) _ (sym (or-true (any_broken k t)))

-- No rows are of no size.
pub size_none : (z : Size) (t : List ℕ) → z.count ≡ 0 → z.bytes ≡ 0 → z.broken ≡ false → z ≡ size_to 0 t
unfolding size_to entries_to any_row entries_bytes
size_none z t p q r = size_is p q r

-- A row has at most one entry.
one_entry : (k : ℕ) (x : Result (Option Saved) Refusal) → length (entry_of_row k x) ≤ 1
one_entry k (Ok None) = omega arith
one_entry k (Ok (Some s)) = omega arith
one_entry k (Err r) = omega arith

-- So a table has no more entries than rows.
pub entries_few : (n : ℕ) (t : List ℕ) → length (entries_to n t) ≤ n
unfolding entries_to
entries_few zero t = omega arith
entries_few (suc k) t =
    omega (
      arith,
      length-append (entries_to k t) (entry_of_row k (row_says (row_at t k))),
      entries_few k t,
      one_entry k (row_says (row_at t k)),
    )

-- And 30 bytes of entries for each row at the most.
pub size_small : (n : ℕ) (t : List ℕ) → ((size_to n t).count ≤ n) × ((size_to n t).bytes ≤ n * 30)
unfolding size_to
size_small n t = (entries_few n t, omega (arith, entries_short (entries_to n t), entries_few n t))

-- The bytes of one row more.
pub bytes_next : (k : ℕ) (t : List ℕ) →
    length (entries_bytes (entries_to (k + 1) t))
    ≡ length (entries_bytes (entries_to k t)) + length (entries_bytes (entry_of_row k (row_says (row_at t k))))
unfolding entries_to
bytes_next k t =
    let es = entries_to k t in
    let fs = entry_of_row k (row_says (row_at t k)) in
    rw add-one (ap length (entries_append es fs) ∙ length-append (entries_bytes es) (entries_bytes fs))

-- More rows have no fewer bytes.
pub bytes_grow : (n k : ℕ) (t : List ℕ) → k ≤ n → length (entries_bytes (entries_to k t)) ≤ length (entries_bytes (entries_to n t))
bytes_grow zero k t h = let e : k ≡ 0 = omega arith in rw e (omega arith)
bytes_grow (suc n) k t h = go (test (leb k n)) (bytes_grow n k t)
  where
    go : Decided (leb k n) → (k ≤ n → length (entries_bytes (entries_to k t)) ≤ length (entries_bytes (entries_to n t))) →
        length (entries_bytes (entries_to k t)) ≤ length (entries_bytes (entries_to (suc n) t))
    go (yes l) less = let m = rw add-one at (bytes_next n t) in omega (arith, less (leb-true k n l))
    go (no l) less = let e : k ≡ suc n = omega (arith, leb-false k n l) in rw e (omega arith)

-- A row without an entry puts nothing.
pub puts_none : (b : List ℕ) (at : ℕ) → Puts [] b at b at
puts_none b at = record { buffer = refl; behind = sym (add-zero at) }

-- A row with one puts it.
pub puts_one : (e : Entry) {b d : List ℕ} {at r : ℕ} → Puts (entry_bytes e) b at d r → Puts (entries_bytes (e ∷ [])) b at d r
unfolding entries_bytes
puts_one e p = rw append-nil p

-- The entries of the first rows, and the entry of one row more, put one after another.
pub puts_row : (k : ℕ) (t : List ℕ) {b m d : List ℕ} {at j r : ℕ} → Puts (entries_bytes (entries_to k t)) b at m j →
    Puts (entries_bytes (entry_of_row k (row_says (row_at t k)))) m j d r → Puts (entries_bytes (entries_to (k + 1) t)) b at d r
unfolding entries_to
puts_row k t p q = rw (add-one, entries_append (entries_to k t) (entry_of_row k (row_says (row_at t k)))) (puts_then p q)

module _ (k : ℕ) (t : List ℕ) {x : Result (Option Saved) Refusal} (says : x ≡ row_says (row_at t k)) where
  -- The bytes of an entry that a row adds lie in those of one row more.
  pub one_next : {s : Saved} → x ≡ Ok (Some s) →
      length (entries_bytes (entries_to (k + 1) t)) ≡ length (entries_bytes (entries_to k t)) + (4 + axis_length s.config.kind)
  one_next {s} e =
      bytes_next k t
      ∙ ap (λ (y : Result (Option Saved) Refusal). length (entries_bytes (entries_to k t)) + length (entries_bytes (entry_of_row k y))) (sym says ∙ e)
      ∙ ap (λ (n : ℕ). length (entries_bytes (entries_to k t)) + n) (one_long (record { axis = k; saved = s }))

  -- One row more that adds an entry, which is put behind the others.
  pub puts_next : {s : Saved} {b m d : List ℕ} {at j r : ℕ} → x ≡ Ok (Some s) → Puts (entries_bytes (entries_to k t)) b at m j →
      Puts (entry_bytes (record { axis = k; saved = s })) m j d r → Puts (entries_bytes (entries_to (k + 1) t)) b at d r
  puts_next {s} e p q = puts_row k t p (rw (← says, e) (puts_one (record { axis = k; saved = s }) q))

  -- One row more that adds none.
  pub puts_same : {b m : List ℕ} {at j : ℕ} → entry_of_row k x ≡ [] → Puts (entries_bytes (entries_to k t)) b at m j →
      Puts (entries_bytes (entries_to (k + 1) t)) b at m j
  unfolding entries_bytes
  puts_same {m = m} {j = j} e p = puts_row k t p (rw (← says, e) (puts_none m j))
