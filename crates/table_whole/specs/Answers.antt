-- When a whole-table save and a whole-table restore answer what, a line for each check that can be the first to fail and one for none:
-- docs/RULES.md, "The record of a whole table" and "Reasons for saying no".
use Rattle.std.specs.Prelude.{ℕ, ◌≤◌, ◌<◌, ◌≡◌, ◌≢◌, List, [], ◌∷◌, length, Result, Ok, Err, ⊤}
use Rattle.refusal.specs.declared.Refusal.{Refusal}
use Rattle.refusal.specs.declared.Refusal.TheVariants.{Length, Axis, Broken as BROKEN, Room, Occupied}
use Rattle.axis_sound.specs.Sound.{status_of}
use Rattle.axis_sound.specs.declared.Status.TheVariants.{Empty, Broken}
use Rattle.record_entry.specs.declared.entry.Entry.{Entry}
use Rattle.record_table.specs.Order.{TableJudged}
use Rattle.table_rows.specs.Table.{axes_in, row_at}
use Rattle.table_record.specs.Saving.{record_in}

-- The answer of a whole-table save with so much room: LENGTH, then BROKEN, then ROOM.
pub data SaveAnswers (t : List ℕ) (room : ℕ) : Result ℕ Refusal → Type 0 where
  no_table : axes_in (length t) ≡ 0 → SaveAnswers t room (Err Length)
  broken_row : (k : ℕ) → k < axes_in (length t) → status_of (row_at t k) ≡ Broken → SaveAnswers t room (Err BROKEN)
  no_room : axes_in (length t) ≢ 0 → ((k : ℕ) → k < axes_in (length t) → status_of (row_at t k) ≢ Broken) → room < length (record_in t) →
      SaveAnswers t room (Err Room)
  saved : axes_in (length t) ≢ 0 → ((k : ℕ) → k < axes_in (length t) → status_of (row_at t k) ≢ Broken) → length (record_in t) ≤ room →
      SaveAnswers t room (Ok (length (record_in t)))

-- Each of some axes has a number below n.
abbrev pub EachBelow : ℕ → List Entry → Type 0
EachBelow n [] = Unit {0}
EachBelow n (e ∷ es) = (e.axis < n) × EachBelow n es

-- The answer of a whole-table restore: LENGTH, then the record's own refusal, then AXIS, then OCCUPIED.
pub data RestoreAnswers (s t : List ℕ) : Result ⊤ Refusal → Type 0 where
  no_rows : axes_in (length t) ≡ 0 → RestoreAnswers s t (Err Length)
  no_record : (e : Refusal) → axes_in (length t) ≢ 0 → TableJudged s (Err e) → RestoreAnswers s t (Err e)
  no_axis : (es : List Entry) → axes_in (length t) ≢ 0 → TableJudged s (Ok es) → (EachBelow (axes_in (length t)) es → ⊥) →
      RestoreAnswers s t (Err Axis)
  full_row : (es : List Entry) (k : ℕ) → TableJudged s (Ok es) → EachBelow (axes_in (length t)) es → k < axes_in (length t) →
      status_of (row_at t k) ≢ Empty → RestoreAnswers s t (Err Occupied)
  restored : (es : List Entry) → axes_in (length t) ≢ 0 → TableJudged s (Ok es) → EachBelow (axes_in (length t)) es →
      ((k : ℕ) → k < axes_in (length t) → status_of (row_at t k) ≡ Empty) → RestoreAnswers s t (Ok tt)
