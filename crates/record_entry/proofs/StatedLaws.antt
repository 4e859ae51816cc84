-- What docs/RULES.md states, computed to its end: "The record of a whole table", one axis of it.
use Rattle.std.specs.Prelude.{Result, Ok, Err}
use mathlib.Core.Path.{◌≡◌, refl}
use mathlib.Core.List.{List, [], ◌∷◌, map}
use Prim.Native.Nat.{ℕ}
use lib.IntN.{pos, negsuc}
use Rattle.refusal.specs.declared.Refusal.TheVariants.{Value, Record}
use Rattle.position.specs.Position.{in_range}
use Rattle.axis.specs.Config.{good_config}
use Rattle.tagged.specs.Bytes.{number_from, bytes_of}
use Rattle.tagged.specs.Field.{field_at, field_bytes}
use Rattle.record_axis.specs.AxisFields.{front_bytes, setting_bytes, axis_bytes}
use Rattle.record_entry.specs.declared.entry.Entry.{Entry}
use Rattle.record_entry.specs.Entry.{counter_from, sampled_from, saved_at, entry_from, entry_bytes}
use Rattle.refusal.specs.declared.Refusal.{Refusal}

-- Axis 9, a counter of 12 bits at 258.
abbrev counter : Entry
counter = record { axis = 9; saved = record { config = record { kind = 8; depth = 0; width = 12; turn = 0 }; position = pos 258 } }

-- Axis 255, x4, depth 3, 4096 counts per turn, at -2.
abbrev sampled : Entry
sampled = record { axis = 255; saved = record { config = record { kind = 4; depth = 3; width = 0; turn = 4096 }; position = negsuc 1 } }

-- The fields up to the position, whose first byte is given, and what follows.
abbrev fronted : ℕ → ℕ → ℕ → List ℕ → List ℕ
fronted axis kind high rest =
    9 ∷ 0 ∷ 1 ∷ axis ∷ 2 ∷ 0 ∷ 1 ∷ kind ∷ 3 ∷ 0 ∷ 8 ∷ high ∷ 255 ∷ 255 ∷ 255 ∷ 255 ∷ 255 ∷ 255 ∷ 254 ∷ rest

abbrev counter_bytes : List ℕ
counter_bytes = 9 ∷ 0 ∷ 1 ∷ 9 ∷ 2 ∷ 0 ∷ 1 ∷ 8 ∷ 3 ∷ 0 ∷ 8 ∷ 0 ∷ 0 ∷ 0 ∷ 0 ∷ 0 ∷ 0 ∷ 1 ∷ 2 ∷ 5 ∷ 0 ∷ 1 ∷ 12 ∷ []

-- An entry is the field of its number and then its axis's fields.
pub entry_written :
    map entry_bytes (counter ∷ sampled ∷ [])
    ≡ counter_bytes ∷ fronted 255 4 255 (4 ∷ 0 ∷ 1 ∷ 3 ∷ 6 ∷ 0 ∷ 4 ∷ 0 ∷ 0 ∷ 16 ∷ 0 ∷ []) ∷ []
unfolding bytes_of field_bytes front_bytes setting_bytes axis_bytes entry_bytes
entry_written = refl

-- Read at the front of a slice, with the least number that it may have.
abbrev read : ℕ → List ℕ → Result (Entry × ℕ) Refusal
read least s = entry_from s 0 least

-- Entries that are accepted, with the least number equal to theirs.
pub entry_read :
    read 9 counter_bytes ∷ read 255 (fronted 255 4 255 (4 ∷ 0 ∷ 1 ∷ 3 ∷ 6 ∷ 0 ∷ 4 ∷ 0 ∷ 0 ∷ 16 ∷ 0 ∷ [])) ∷ []
    ≡ Ok (counter, 23) ∷ Ok (sampled, 30) ∷ []
unfolding number_from field_at good_config in_range counter_from sampled_from saved_at entry_from
entry_read = refl

-- Each value is judged after its own field and before the next: a number below the least before a missing kind, a kind that is none
-- before a missing position, a position out of the range before a cut depth, and a depth or a width outside its limits before what
-- follows; a cut inside a value is RECORD.
pub value_after_field :
    read 1 (9 ∷ 0 ∷ 1 ∷ 0 ∷ [])
    ∷ read 1 (9 ∷ 0 ∷ 1 ∷ [])
    ∷ read 0 (9 ∷ 0 ∷ 1 ∷ 0 ∷ 2 ∷ 0 ∷ 1 ∷ 3 ∷ [])
    ∷ read 0 (9 ∷ 0 ∷ 1 ∷ 0 ∷ 2 ∷ 0 ∷ 1 ∷ 4 ∷ [])
    ∷ read 0 (fronted 0 4 64 (4 ∷ 0 ∷ []))
    ∷ read 0 (fronted 0 4 255 (4 ∷ 0 ∷ []))
    ∷ read 0 (fronted 0 4 255 (4 ∷ 0 ∷ 1 ∷ 9 ∷ []))
    ∷ read 0 (fronted 0 4 255 (4 ∷ 0 ∷ 1 ∷ 0 ∷ []))
    ∷ read 0 (fronted 0 4 255 (4 ∷ 0 ∷ 1 ∷ 8 ∷ 6 ∷ 0 ∷ 4 ∷ 0 ∷ 0 ∷ 16 ∷ []))
    ∷ read 0 (fronted 0 8 255 (5 ∷ 0 ∷ 1 ∷ 33 ∷ []))
    ∷ read 0 (fronted 0 8 255 (5 ∷ 0 ∷ 1 ∷ 1 ∷ []))
    ∷ read 0 (fronted 0 8 255 (4 ∷ 0 ∷ 1 ∷ 3 ∷ []))
    ∷ []
    ≡ map Err
    (Value ∷ Record ∷ Value ∷ Record ∷ Value ∷ Record ∷ Value ∷ Value ∷ Record ∷ Value ∷ Value ∷ Record ∷ [])
unfolding number_from field_at good_config in_range counter_from sampled_from saved_at entry_from
value_after_field = refl
