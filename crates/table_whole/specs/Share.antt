-- A whole-table restore as one axis has it: docs/RULES.md, "The record of a whole table" and "The three demands".
use Rattle.std.specs.Prelude.{ℕ, ◌≡◌, Bool, false, not, cond, ◌&&◌, ◌||◌, List, [], ◌∷◌, eqb, length, Result, Ok, Err, is_err}
use Rattle.refusal.specs.declared.Refusal.TheVariants.{Axis, Occupied}
use Rattle.axis.specs.declared.row.Row.{Row}
use Rattle.axis_sound.specs.Sound.{is_empty}
use Rattle.record_axis.specs.declared.saved.Saved.{Saved}
use Rattle.record_entry.specs.declared.entry.Entry.{Entry}
use Rattle.record_table.specs.TableRecord.{table_read_as}
use Rattle.row_saving.specs.Saving.{said_row}
use Rattle.row_calls.specs.Calls.{on_empty}
use Rattle.table_rows.specs.Table.{axes_in}
use Rattle.table_record.specs.AnyRow.{any_row}
use Rattle.table_record.specs.Restoring.{all_below, table_ruling}
use Rattle.refusal.specs.declared.Refusal.{Refusal}

-- What one axis has of a whole-table restore: its own number, how many axes there are, the record's bytes, and the one thing that it is
-- told of the rest of the table, whether another row was not empty.
pub record Share : Type 0 where
  pub axis : ℕ
  pub axes : ℕ
  pub bytes : List ℕ
  pub others : Bool

-- What some axes say of axis k, the last of them if there were more, put to a use; or what there was, where none of them says anything.
unfoldable pub last_said : {A : Type 0} → ℕ → (Saved → A) → List Entry → A → A
last_said k put [] x = x
last_said k put (e ∷ es) x = last_said k put es (cond (eqb e.axis k) (put e.saved) x)

-- The row of axis k where some axes are put: what the record says of it, or the row as it was.
abbrev pub row_said : ℕ → List Entry → Row → Row
row_said k es r = last_said k said_row es r

-- Whether some axes have one of a number.
unfoldable pub mentions : ℕ → List Entry → Bool
mentions k [] = false
mentions k (e ∷ es) = eqb e.axis k || mentions k es

-- Of some axes the one of a number, the last if there were more, is said to be this.
pub data SaysOf (k : ℕ) (x : Saved) : List Entry → Type 0 where
  here : {es : List Entry} → mentions k es ≡ false → SaysOf k x (record { axis = k; saved = x } ∷ es)
  later : {e : Entry} {es : List Entry} → SaysOf k x es → SaysOf k x (e ∷ es)

-- What a record that is read makes of the axis's row: AXIS, then OCCUPIED where another row or its own is not empty, else its own part.
abbrev pub shared_by : Share → Result (List Entry) Refusal → Row → Result Row Refusal
shared_by w (Ok es) r =
    cond (all_below w.axes es)
    (cond w.others (Err Occupied) (on_empty (Ok (row_said w.axis es r)) r))
    (Err Axis)
shared_by w (Err e) r = Err e

-- What a whole-table restore makes of the axis's row: its own definition.
unfoldable pub share_row : Share → Row → Result Row Refusal
share_row w r = shared_by w (table_read_as w.bytes) r

-- Whether one of the first n rows other than row k is not empty.
abbrev pub others_full : ℕ → ℕ → List ℕ → Bool
others_full k = any_row (λ j r. not (eqb j k) && not (is_empty r))

-- Axis k's share of a whole-table restore of a table.
abbrev pub share_of : ℕ → List ℕ → List ℕ → Share
share_of k t bytes = record { axis = k; axes = axes_in (length t); bytes = bytes; others = others_full k (axes_in (length t)) t }

-- Whether a whole-table restore of a table is refused.
abbrev pub refuses_table : List ℕ → List ℕ → Bool
refuses_table t bytes = is_err (table_ruling bytes t)
