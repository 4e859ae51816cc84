-- Events that begin no phase, and events that a row that is not empty does not heed: docs/RULES.md, "Calls that name one axis", Setup and
-- Erase, and "The saved record". Newest first.
use Rattle.std.specs.Prelude.{◌≡◌, Bool, true, false, cond, ◌&&◌, ◌||◌, List, [], ◌∷◌}
use Rattle.axis.specs.Config.{good_config}
use Rattle.axis.specs.declared.row.Row.{Row}
use Rattle.axis_sound.specs.Sound.{is_empty}
use Rattle.record.specs.Record.{read_as}
use Rattle.row_saving.specs.Saving.{is_read}
use Rattle.row_calls.specs.Calls.{Setup, Erase, Preset, Arm, Acknowledge}
use Rattle.runs.specs.Op.{changes, restore, reading, looks}
use Rattle.runs.specs.Event.{Event, bits, asked}

-- Whether an event is an erase.
unfoldable pub erases : Event → Bool
erases (bits n) = false
erases (asked (changes (Setup kind depth width turn))) = false
erases (asked (changes Erase)) = true
erases (asked (changes (Preset z))) = false
erases (asked (changes Arm)) = false
erases (asked (changes Acknowledge)) = false
erases (asked (restore bytes)) = false
erases (asked (reading x)) = false
erases (asked (looks l)) = false

-- Whether an event makes an axis where the row is empty: a setup with a configuration, and a restore of a record that is accepted.
unfoldable pub makes_axis : Event → Bool
makes_axis (bits n) = false
makes_axis (asked (changes (Setup kind depth width turn))) = good_config kind depth width turn
makes_axis (asked (changes Erase)) = false
makes_axis (asked (changes (Preset z))) = false
makes_axis (asked (changes Arm)) = false
makes_axis (asked (changes Acknowledge)) = false
makes_axis (asked (restore bytes)) = is_read (read_as bytes)
makes_axis (asked (reading x)) = false
makes_axis (asked (looks l)) = false

-- Whether an event begins a phase on a row: an erase does on every row, and what makes an axis does on an empty one.
unfoldable pub begins : Row → Event → Bool
begins r e = erases e || (is_empty r && makes_axis e)

-- None of some events begins a phase on a row.
abbrev pub Lasting : Row → List Event → Type 0
Lasting r [] = Unit {0}
Lasting r (e ∷ h) = (begins r e ≡ false) × Lasting r h

-- No erase is among some events.
abbrev pub Unerased : List Event → Type 0
Unerased [] = Unit {0}
Unerased (e ∷ h) = (erases e ≡ false) × Unerased h

-- Whether an event is a setup, a restore or a look, which a row that is not empty does not heed.
unfoldable pub unheeded : Event → Bool
unheeded (bits n) = false
unheeded (asked (changes (Setup kind depth width turn))) = true
unheeded (asked (changes Erase)) = false
unheeded (asked (changes (Preset z))) = false
unheeded (asked (changes Arm)) = false
unheeded (asked (changes Acknowledge)) = false
unheeded (asked (restore bytes)) = true
unheeded (asked (reading x)) = false
unheeded (asked (looks l)) = true

-- Events without those.
unfoldable pub heeded : List Event → List Event
heeded [] = []
heeded (e ∷ h) = cond (unheeded e) (heeded h) (e ∷ heeded h)
