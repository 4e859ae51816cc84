-- When a call that names one axis is refused, for all calls at once: docs/RULES.md, "Reasons for saying no".
use Rattle.std.specs.Prelude.{ℕ, ◌≤◌, ◌<◌, ◌≡◌, ◌↔◌, ◌≢◌, ◌⊎◌, Bool, true, false, List, length}
use Rattle.refusal.specs.Refusal.{number_of}
use Rattle.axis_sound.specs.Sound.{status_of}
use Rattle.axis_sound.specs.declared.Status.{Status}
use Rattle.axis_sound.specs.declared.Status.TheVariants.{Empty, Sampled, Counter, Broken}
use Rattle.row_calls.specs.Calls.{Setup, Erase, Preset, Arm, Acknowledge}
use Rattle.record.specs.Record.{read_as}
use Rattle.row_saving.specs.Saving.{is_read}
use Rattle.table_rows.specs.Table.{axes_in, row_at}
use Rattle.runs.specs.Told.{Told, marks, refused, done, shown, number, quotient, wrote}
use Rattle.runs.specs.Op.{Op, view, speed, save, changes, restore, reading, looks}
use Rattle.runs.specs.Answering.{Answers}

-- The number of the refusal that an axis is told, 0 where there is none.
unfoldable pub refusal_told : Told → ℕ
refusal_told (marks m) = 0
refusal_told (refused e) = number_of e
refusal_told done = 0
refusal_told (shown v) = 0
refusal_told (number z) = 0
refusal_told (quotient q) = 0
refusal_told (wrote n bytes) = 0

-- Preset, arm, acknowledge, a reading and the looks ask for an axis in the row; setup, erase and restore do not.
unfoldable pub needs_axis : Op → Bool
needs_axis (changes (Setup kind depth width turn)) = false
needs_axis (changes Erase) = false
needs_axis (changes (Preset p)) = true
needs_axis (changes Arm) = true
needs_axis (changes Acknowledge) = true
needs_axis (restore bytes) = false
needs_axis (reading x) = true
needs_axis (looks l) = true

-- A setup wants an empty row, and so does a restore whose record is accepted.
unfoldable pub wants_empty : Op → Bool
wants_empty (changes (Setup kind depth width turn)) = true
wants_empty (changes Erase) = false
wants_empty (changes (Preset p)) = false
wants_empty (changes Arm) = false
wants_empty (changes Acknowledge) = false
wants_empty (restore bytes) = is_read (read_as bytes)
wants_empty (reading x) = false
wants_empty (looks l) = false

-- Arm, acknowledge and speed by period are not for counters, and a reading is not for sampled rows.
unfoldable pub WrongKind : Op → Status → Type 0
WrongKind (changes (Setup kind depth width turn)) s = ⊥
WrongKind (changes Erase) s = ⊥
WrongKind (changes (Preset p)) s = ⊥
WrongKind (changes Arm) s = s ≡ Counter
WrongKind (changes Acknowledge) s = s ≡ Counter
WrongKind (restore bytes) s = ⊥
WrongKind (reading x) s = s ≡ Sampled
WrongKind (looks view) s = ⊥
WrongKind (looks (speed rate)) s = s ≡ Counter
WrongKind (looks (save buffer)) s = ⊥

-- A call takes a row: where it asks for an axis, a sampled row or a counter that is not of the wrong kind; where it wants an empty row, an
-- empty one; and else any.
unfoldable pub Takes : Op → Status → Type 0
Takes o s =
    (needs_axis o ≡ true → ((s ≡ Sampled) ⊎ (s ≡ Counter)) × (WrongKind o s → ⊥))
    × (wants_empty o ≡ true → s ≡ Empty)

-- The number of a reason that a row's own state gives: BROKEN, EMPTY, KIND or OCCUPIED.
abbrev pub ByRow : ℕ → Type 0
ByRow n = ((n ≡ 3) ⊎ (n ≡ 4)) ⊎ ((n ≡ 5) ⊎ (n ≡ 13))

-- The reasons 1 to 5 and 13 of a call that names axis k of a table, each exactly when; on a row that the call takes the answer that one
-- of its lines gives; and no row is left over: where the row's own state gives no reason, the call takes it.
pub record RefusesExactly (o : Op) (t : List ℕ) (k : ℕ) (a : Told) : Type 0 where
  pub slice : (refusal_told a ≡ 1) ↔ (axes_in (length t) ≡ 0)
  pub axis : (refusal_told a ≡ 2) ↔ ((axes_in (length t) ≢ 0) × (axes_in (length t) ≤ k))
  pub broken : (refusal_told a ≡ 3) ↔ ((k < axes_in (length t)) × (needs_axis o ≡ true) × (status_of (row_at t k) ≡ Broken))
  pub empty : (refusal_told a ≡ 4) ↔ ((k < axes_in (length t)) × (needs_axis o ≡ true) × (status_of (row_at t k) ≡ Empty))
  pub kind : (refusal_told a ≡ 5) ↔ ((k < axes_in (length t)) × WrongKind o (status_of (row_at t k)))
  pub occupied : (refusal_told a ≡ 13) ↔ ((k < axes_in (length t)) × (wants_empty o ≡ true) × (status_of (row_at t k) ≢ Empty))
  pub own : k < axes_in (length t) → Takes o (status_of (row_at t k)) → Answers (row_at t k) o a
  pub all : k < axes_in (length t) → (ByRow (refusal_told a) → ⊥) → Takes o (status_of (row_at t k))
