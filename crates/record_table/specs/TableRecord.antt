-- The record of a whole table, layout 2: docs/RULES.md, "The record of a whole table".
use Rattle.std.specs.Prelude.{◌≡◌, Bool, true, false, cond, List, [], ◌∷◌, ◌++◌, ℕ, zero, suc, ◌≤◌, eqb, leb, length, Result, Ok, Err, ⊤}
use Rattle.refusal.specs.declared.Refusal.{Refusal}
use Rattle.refusal.specs.declared.Refusal.TheVariants.{Value, Record}
use Rattle.axis.specs.Limit.{most_axes}
use Rattle.tagged.specs.Bytes.{starts}
use Rattle.tagged.specs.Field.{field_at, field_bytes}
use Rattle.record_axis.specs.AxisFields.{on_field}
use Rattle.record_axis.specs.Limits.{within_limits}
use Rattle.record.specs.Opening.{opening}
use Rattle.record.specs.Tags.{end_tag}
use Rattle.record.specs.Record.{layout_refusal, tested_as}
use Rattle.record_entry.specs.Entry.{entry_from, entry_bytes}
use Rattle.record_entry.specs.declared.entry.Entry.{Entry}
use Rattle.record_table.specs.Opening.{table_opening}
use Rattle.record_table.specs.Tags.{count_tag}

-- ---- reading

-- An entry's answer: on with it and the next place, or its refusal at once.
abbrev pub on_entry : Result (Entry × ℕ) Refusal → (Entry → ℕ → Result (List Entry) Refusal) → Result (List Entry) Refusal
on_entry (Ok (e, next)) k = k e next
on_entry (Err r) k = Err r

-- One axis before those that the rest says.
abbrev pub before : Entry → Result (List Entry) Refusal → Result (List Entry) Refusal
before e (Ok es) = Ok (e ∷ es)
before e (Err r) = Err r

-- Whether the end field stands at a place with nothing after it.
unfoldable pub closes_at : List ℕ → ℕ → Bool
closes_at s at = on_field false (field_at s at end_tag 0) (λ _ at. eqb (length s) at)

-- So many entries from a place on, each with a number above the one before, the first with at least a number given; and then the end.
unfoldable pub entries_at : ℕ → List ℕ → ℕ → ℕ → Result (List Entry) Refusal
entries_at zero s at least = cond (closes_at s at) (Ok []) (Err Record)
entries_at (suc n) s at least = on_entry (entry_from s at least) (λ e at. before e (entries_at n s at (suc e.axis)))

-- What a reader answers to a slice, the whole of which is the record: the layout, the number of axes, and then the axes, or why it is refused.
unfoldable pub table_read_as : List ℕ → Result (List Entry) Refusal
table_read_as s =
    cond (starts table_opening s)
    (on_field (Err Record) (field_at s 5 count_tag 1) (λ n at.
    cond (leb n most_axes) (entries_at n s at 0) (Err Value)))
    (Err (layout_refusal s))

-- ---- the test of both layouts

-- A test accepts what a reader accepts, and refuses as it does.
abbrev pub tested_table : Result (List Entry) Refusal → Result ⊤ Refusal
tested_table (Ok es) = Ok tt
tested_table (Err r) = Err r

-- The test of both: a slice with layout 1's opening by layout 1's rules, and any other by those of layout 2.
unfoldable pub tested_either : List ℕ → Result ⊤ Refusal
tested_either s = cond (starts opening s) (tested_as s) (tested_table (table_read_as s))

-- ---- writing

-- Entries, one behind another.
unfoldable pub entries_bytes : List Entry → List ℕ
entries_bytes [] = []
entries_bytes (e ∷ es) = entry_bytes e ++ entries_bytes es

-- What stands before the first entry: the opening and the number of axes, 9 bytes.
unfoldable pub table_front : ℕ → List ℕ
table_front n = table_opening ++ field_bytes count_tag 1 n

-- The record of some axes.
unfoldable pub table_record_of : List Entry → List ℕ
table_record_of es = table_front (length es) ++ (entries_bytes es ++ field_bytes end_tag 0 0)

-- Axes that ascend strictly, the first with at least a number given, each a byte's and within its limits.
abbrev pub Ascending : ℕ → List Entry → Type 0
Ascending least [] = Unit {0}
Ascending least (e ∷ es) = (least ≤ e.axis) × (e.axis ≤ 255) × (within_limits e.saved ≡ true) × Ascending (suc e.axis) es

-- Axes that a record can say: no more than a table may have, ascending.
pub record Tellable (es : List Entry) : Type 0 where
  pub few : length es ≤ most_axes
  pub rising : Ascending 0 es
