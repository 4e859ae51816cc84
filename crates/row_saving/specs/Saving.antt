-- Save and restore, on a row: docs/RULES.md, "The saved record".
use Rattle.std.specs.Prelude.{ℕ, Bool, true, false, List, Result, Ok, Err}
use Rattle.position.specs.Position.{word_of, position_of}
use Rattle.axis.specs.Row.{axis_of, row_of, fresh_at}
use Rattle.axis.specs.declared.row.Axis.{Axis}
use Rattle.axis.specs.declared.row.Row.{Row}
use Rattle.axis_sound.specs.Sound.{status_of}
use Rattle.record.specs.Record.{read_as, saved_as, written}
use Rattle.record_axis.specs.declared.saved.Saved.{Saved}
use Rattle.row_calls.specs.Calls.{by_status, on_empty}
use Rattle.refusal.specs.declared.Refusal.{Refusal}

-- What an axis saves: its configuration and its position.
abbrev pub saved_of : Axis → Saved
saved_of a = record { config = a.config; position = position_of a.word }

-- The answer of a save, on a sampled row and on a counter, by the room in the buffer.
unfoldable pub save_row : ℕ → Row → Result ℕ Refusal
save_row room r = by_status Err (saved_as room (saved_of (axis_of r))) (saved_as room (saved_of (axis_of r))) (status_of r)

-- What a save leaves in the buffer: the record at its front, or on a refusal all as it was.
unfoldable pub saved_in : List ℕ → Row → List ℕ
saved_in buf r = by_status (λ _. buf) (written buf (saved_of (axis_of r))) (written buf (saved_of (axis_of r))) (status_of r)

-- Whether a record is accepted.
abbrev pub is_read : Result Saved Refusal → Bool
is_read (Ok s) = true
is_read (Err e) = false

-- The row that a record says: its configuration at its position, all else 0.
abbrev pub said_row : Saved → Row
said_row s = row_of (fresh_at s.config (word_of s.position))

-- What a record makes of a row: its own refusal comes first, and then it wants an empty row.
unfoldable pub restored_by : Result Saved Refusal → Row → Result Row Refusal
restored_by (Ok s) r = on_empty (Ok (said_row s)) r
restored_by (Err e) r = Err e

-- Restore, by what the record's reader says.
unfoldable pub restore_row : List ℕ → Row → Result Row Refusal
restore_row slice r = restored_by (read_as slice) r
