-- The whole-table restore: docs/RULES.md, "The record of a whole table".
use Rattle.std.specs.Prelude.{ℕ, ◌≡◌, Bool, true, not, cond, ◌&&◌, List, [], ◌∷◌, eqb, ltb, length, Result, Ok, Err, ⊤}
use Rattle.refusal.specs.declared.Refusal.TheVariants.{Length, Axis, Occupied}
use Rattle.axis.specs.declared.row.Row.{Row}
use Rattle.axis_sound.specs.Sound.{is_empty}
use Rattle.record_entry.specs.declared.entry.Entry.{Entry}
use Rattle.record_table.specs.TableRecord.{entries_at, table_read_as}
use Rattle.row_saving.specs.Saving.{said_row}
use Rattle.table_rows.specs.Table.{axes_in, set_row}
use Rattle.table_record.specs.AnyRow.{any_row}
use Rattle.refusal.specs.declared.Refusal.{Refusal}

-- Whether every axis has a number below n.
unfoldable pub all_below : ℕ → List Entry → Bool
all_below n [] = true
all_below n (e ∷ es) = ltb e.axis n && all_below n es

-- Whether a row, of any number, is not empty.
abbrev pub is_full : ℕ → Row → Bool
is_full k r = not (is_empty r)

-- Whether the first n rows are all empty: none of them is not.
abbrev pub all_empty : ℕ → List ℕ → Bool
all_empty n t = not (any_row is_full n t)

-- A table with the row of each axis put in its place.
unfoldable pub filled : List ℕ → List Entry → List ℕ
filled t [] = t
filled t (e ∷ es) = filled (set_row t e.axis (said_row e.saved)) es

-- What a record that is read comes to on n rows: AXIS, then OCCUPIED, or the axes that it puts there.
abbrev pub ruling_on : ℕ → List ℕ → Result (List Entry) Refusal → Result (List Entry) Refusal
ruling_on n t (Ok es) = cond (all_below n es) (cond (all_empty n t) (Ok es) (Err Occupied)) (Err Axis)
ruling_on n t (Err e) = Err e

-- What a whole-table restore comes to: LENGTH, then the record's own refusal, then AXIS and OCCUPIED.
unfoldable pub table_ruling : List ℕ → List ℕ → Result (List Entry) Refusal
table_ruling s t = cond (eqb (axes_in (length t)) 0) (Err Length) (ruling_on (axes_in (length t)) t (table_read_as s))

-- What it answers.
abbrev pub table_done : Result (List Entry) Refusal → Result ⊤ Refusal
table_done (Ok es) = Ok tt
table_done (Err e) = Err e

-- The table that it leaves: the axes put in their places, or on a refusal every word as it was.
abbrev pub table_left : List ℕ → Result (List Entry) Refusal → List ℕ
table_left t (Ok es) = filled t es
table_left t (Err e) = t

-- What a whole-table restore promises: t before, u after, and the answer.
pub record TableRestores (s t u : List ℕ) (a : Result ⊤ Refusal) : Type 0 where
  pub answer : a ≡ table_done (table_ruling s t)
  pub table : u ≡ table_left t (table_ruling s t)

-- ---- the second reading

-- The axes of a reading, none on a refusal.
abbrev pub entries_said : Result (List Entry) Refusal → List Entry
entries_said (Ok es) = es
entries_said (Err e) = []

-- Entries from a record's tenth byte on that were accepted, and whose rows are all there.
pub record Fillable (count : ℕ) (s t : List ℕ) : Type 0 where
  pub entries : List Entry
  pub read : entries_at count s 9 0 ≡ Ok entries
  pub rows : all_below (axes_in (length t)) entries ≡ true
