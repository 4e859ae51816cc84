-- The laws of a whole table's record as bytes: how long it is, and how it is put together.
use mathlib.Core.Path.{◌≡◌, refl}
use mathlib.Core.List.{List, [], ◌∷◌, ◌++◌, append_assoc}
use Prim.Native.Nat.{ℕ, ◌+◌, ◌*◌, ◌≤◌}
use native.Mathlib.Omega.{arith}
use lib.ListN.{length, length-append}
use Rattle.tagged.specs.Bytes.{bytes_of}
use Rattle.tagged.specs.Store.{Puts}
use Rattle.tagged.specs.Field.{field_bytes}
use Rattle.tagged.proofs.StoreLaws.{puts_then}
use Rattle.record_axis.proofs.AxisLaws.{length_bounds}
use Rattle.record.specs.Tags.{end_tag}
use Rattle.record_entry.specs.Entry.{entry_bytes}
use Rattle.record_entry.specs.declared.entry.Entry.{Entry}
use Rattle.record_entry.proofs.EntryLaws.{entry_long}
use Rattle.record_table.specs.TableRecord.{entries_bytes, table_front, table_record_of}

-- Entries and entries behind them.
pub entries_append : (es fs : List Entry) → entries_bytes (es ++ fs) ≡ entries_bytes es ++ entries_bytes fs
unfolding entries_bytes
entries_append [] fs = refl
entries_append (e ∷ es) fs = rw (entries_append es fs, append_assoc)

-- An entry is at most 30 bytes.
entry_short : (e : Entry) → length (entry_bytes e) ≤ 30
entry_short e = omega (arith, entry_long e, (length_bounds e.saved.config.kind).1)

-- So entries are at most 30 bytes each.
pub entries_short : (es : List Entry) → length (entries_bytes es) ≤ length es * 30
unfolding entries_bytes
entries_short [] = omega arith
entries_short (e ∷ es) = omega (arith, length-append (entry_bytes e) (entries_bytes es), entry_short e, entries_short es)

-- A record is twelve bytes longer than its entries.
pub table_long : (es : List Entry) → length (table_record_of es) ≡ 12 + length (entries_bytes es)
unfolding table_record_of table_front field_bytes bytes_of
table_long es = simp length-append (omega arith)

-- So it has at most 12 bytes and 30 for each axis.
pub table_short : (es : List Entry) → length (table_record_of es) ≤ 12 + length es * 30
table_short es = omega (arith, table_long es, entries_short es)

-- The front, the entries and the end, put one after another.
pub puts_table : (es : List Entry) {b m l d : List ℕ} {i j r : ℕ} → Puts (table_front (length es)) b 0 m i →
    Puts (entries_bytes es) m i l j → Puts (field_bytes end_tag 0 0) l j d r → Puts (table_record_of es) b 0 d r
unfolding table_record_of
puts_table es p q f = puts_then p (puts_then q f)
