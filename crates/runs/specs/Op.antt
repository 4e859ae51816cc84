-- The calls that name one axis, as data: docs/RULES.md, "Calls that name one axis" and "The saved record".
-- What a call makes of the named row and what it answers is said here once, call by call.
use Rattle.std.specs.Prelude.{ℕ, ◌≡◌, List, length, Result, Ok}
use Rattle.refusal.specs.declared.Refusal.{Refusal}
use Rattle.axis.specs.declared.row.Row.{Row}
use Rattle.row_calls.specs.Answer.{done_of}
use Rattle.row_calls.specs.Calls.{left_by, change_row}
use Rattle.row_view.specs.View.{view_row}
use Rattle.row_saving.specs.Saving.{save_row, saved_in, restore_row}
use Rattle.row_speed.specs.Speed.{speed_row}
use Rattle.row_counter.specs.Reading.{reading_row, read_row}
use Rattle.row_calls.specs.Calls.{Change}
use Rattle.runs.specs.Told.{Told, refused, told_done, told_view, told_number, told_speed, told_bytes}

-- A call that only looks: save by what the buffer holds.
pub data Look : Type 0 where
  view : Look
  speed : ℕ → Look
  save : List ℕ → Look

-- A call that names the axis, with any arguments. A `Change`, which is one of five calls, and restore by the record's bytes, make another row
-- and answer only that they did; a reading makes another row and answers more than that.
pub data Op : Type 0 where
  changes : Change → Op
  restore : List ℕ → Op
  reading : ℕ → Op
  looks : Look → Op

-- What a look tells of a row.
unfoldable pub look_row : Look → Row → Told
look_row view r = told_view (view_row r)
look_row (speed rate) r = told_speed (speed_row rate r)
look_row (save buffer) r = told_bytes (save_row (length buffer) r) (saved_in buffer r)

-- What a call makes of a row: a look, the row itself.
unfoldable pub rule_of : Op → Row → Result Row Refusal
rule_of (changes c) r = change_row c r
rule_of (restore bytes) r = restore_row bytes r
rule_of (reading x) r = read_row x r
rule_of (looks l) r = Ok r

-- What a call answers on a row.
unfoldable pub answer_of : Op → Row → Told
answer_of (changes c) r = told_done (done_of (change_row c r))
answer_of (restore bytes) r = told_done (done_of (restore_row bytes r))
answer_of (reading x) r = told_number (reading_row x r)
answer_of (looks l) r = look_row l r

-- A row after a call.
unfoldable pub row_after : Row → Op → Row
row_after r o = left_by r (rule_of o r)

-- A call on a row is refused.
abbrev pub RefusedFor : Row → Op → Refusal → Type 0
RefusedFor r o e = answer_of o r ≡ refused e
