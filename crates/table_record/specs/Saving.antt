-- The whole-table save: docs/RULES.md, "The record of a whole table".
use Rattle.std.specs.Prelude.{ℕ, zero, suc, ◌+◌, ◌≡◌, Bool, true, cond, List, [], ◌∷◌, ◌++◌, eqb, leb, length, Result, Ok, Err, Option, Some, None}
use Rattle.std.proofs.lemmas.List.Edits.{sets}
use Rattle.refusal.specs.declared.Refusal.TheVariants.{Length, Broken as BROKEN, Room}
use Rattle.axis.specs.Row.{axis_of}
use Rattle.axis.specs.declared.row.Row.{Row}
use Rattle.axis_sound.specs.Sound.{status_of}
use Rattle.axis_sound.specs.declared.Status.{Status}
use Rattle.axis_sound.specs.declared.Status.TheVariants.{Empty, Sampled, Counter, Broken}
use Rattle.axis_open.specs.Open.{broken_by}
use Rattle.record_axis.specs.AxisFields.{axis_length}
use Rattle.record_axis.specs.declared.saved.Saved.{Saved}
use Rattle.record_entry.specs.declared.entry.Entry.{Entry}
use Rattle.record_table.specs.TableRecord.{entries_bytes, table_record_of}
use Rattle.row_saving.specs.Saving.{saved_of}
use Rattle.table_rows.specs.Table.{axes_in, row_at}
use Rattle.table_record.specs.AnyRow.{any_row}
use Rattle.table_record.specs.declared.measure.Size.{Size}
use Rattle.refusal.specs.declared.Refusal.{Refusal}

-- ---- what a table saves

-- What a row adds by its status: an empty one nothing, a sampled one and a counter what a save of it alone says; a broken one refuses.
abbrev pub said_by : Saved → Status → Result (Option Saved) Refusal
said_by s Empty = Ok None
said_by s Sampled = Ok (Some s)
said_by s Counter = Ok (Some s)
said_by s Broken = Err BROKEN

-- What a row adds.
unfoldable pub row_says : Row → Result (Option Saved) Refusal
row_says r = said_by (saved_of (axis_of r)) (status_of r)

-- The entry of row k, or none.
abbrev pub entry_of_row : ℕ → Result (Option Saved) Refusal → List Entry
entry_of_row k (Ok None) = []
entry_of_row k (Ok (Some s)) = record { axis = k; saved = s } ∷ []
entry_of_row k (Err e) = []

-- The entries of the first n rows.
unfoldable pub entries_to : ℕ → List ℕ → List Entry
entries_to zero t = []
entries_to (suc k) t = entries_to k t ++ entry_of_row k (row_says (row_at t k))

-- The entries of a table: its rows in their order, empty ones left out.
abbrev pub entries_in : List ℕ → List Entry
entries_in t = entries_to (axes_in (length t)) t

-- The record of a table.
abbrev pub record_in : List ℕ → List ℕ
record_in t = table_record_of (entries_in t)

-- Whether one of the first n rows is broken.
abbrev pub any_broken : ℕ → List ℕ → Bool
any_broken = any_row (λ k r. broken_by (status_of r))

-- A size with what one row more adds: its entry's bytes, or that it is broken.
abbrev pub size_with : Size → Result (Option Saved) Refusal → Size
size_with z (Ok None) = z
size_with z (Ok (Some s)) = record { count = z.count + 1; bytes = z.bytes + 4 + axis_length s.config.kind; broken = z.broken }
size_with z (Err e) = record { count = z.count; bytes = z.bytes; broken = true }

-- The size of the first n rows.
unfoldable pub size_to : ℕ → List ℕ → Size
size_to n t = record { count = length (entries_to n t); bytes = length (entries_bytes (entries_to n t)); broken = any_broken n t }

-- ---- the call

-- What a whole-table save answers, by the room in the buffer: LENGTH, then BROKEN, then ROOM, or the number of bytes.
unfoldable pub table_save_in : ℕ → List ℕ → Result ℕ Refusal
table_save_in room t =
    cond (eqb (axes_in (length t)) 0) (Err Length)
    (cond (any_broken (axes_in (length t)) t) (Err BROKEN)
    (cond (leb (length (record_in t)) room) (Ok (length (record_in t))) (Err Room)))

-- What a save leaves in a buffer by its answer: the bytes at the front, or on a refusal all as it was.
abbrev pub front_by : List ℕ → List ℕ → Result ℕ Refusal → List ℕ
front_by b bytes (Ok n) = sets b 0 bytes
front_by b bytes (Err e) = b

-- What a whole-table save promises: b before, d after, and the answer; the table is only read.
pub record TableSaves (t b d : List ℕ) (a : Result ℕ Refusal) : Type 0 where
  pub answer : a ≡ table_save_in (length b) t
  pub buffer : d ≡ front_by b (record_in t) (table_save_in (length b) t)
