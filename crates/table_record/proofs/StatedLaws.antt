-- What docs/RULES.md states, computed to its end: "The record of a whole table", the two calls.
use Rattle.std.specs.Prelude.{Ok, Err}
use mathlib.Core.Path.{◌≡◌, refl}
use mathlib.Core.Bool.{true, false}
use mathlib.Core.List.{List, [], ◌∷◌, map}
use Prim.Native.Nat.{ℕ, ◌+◌, ◌-◌, ◌*◌, ◌^◌}
use lib.IntN.{pos, negsuc}
use Rattle.refusal.specs.declared.Refusal.TheVariants.{Length, Axis, Broken, Room, Layout, Occupied}
use Rattle.position.specs.Position.{position_of, word_of, in_range}
use Rattle.axis.specs.Config.{good_config}
use Rattle.axis.specs.Limit.{most_axes}
use Rattle.axis_sound.specs.Sound.{status_of}
use Rattle.tagged.specs.Bytes.{number_from, bytes_of, starts}
use Rattle.tagged.specs.Field.{field_at, field_bytes}
use Rattle.record_axis.specs.AxisFields.{front_bytes, setting_bytes, axis_bytes}
use Rattle.record.specs.Record.{layout_refusal}
use Rattle.record_entry.specs.Entry.{counter_from, sampled_from, saved_at, entry_from, entry_bytes}
use Rattle.record_entry.specs.declared.entry.Entry.{Entry}
use Rattle.record_table.specs.TableRecord.{closes_at, entries_at, table_read_as, entries_bytes, table_front, table_record_of}
use Rattle.table_rows.specs.Table.{axes_in, row_at, set_row}
use Rattle.table_record.specs.AnyRow.{any_row}
use Rattle.table_record.specs.Saving.{row_says, entries_to, size_to, table_save_in}
use Rattle.table_record.specs.Restoring.{all_below, filled, table_ruling, table_left}

-- The words of an x4 axis of depth 3 with 4096 counts per turn at -2, set up and preset; of a counter of 12 bits at 70,000; of an empty
-- row; and of a row that is broken.
abbrev pub x4 : List ℕ → List ℕ
x4 rest = (2 ^ 62 - 2) ∷ (4 + 3 * 2 ^ 4) ∷ 0 ∷ 4096 ∷ rest

abbrev pub narrow : List ℕ → List ℕ
narrow rest = (2 ^ 62 + 70000) ∷ (8 + 12 * 2 ^ 8) ∷ 0 ∷ 0 ∷ rest

abbrev pub none : List ℕ → List ℕ
none rest = 0 ∷ 0 ∷ 0 ∷ 0 ∷ rest

abbrev pub bad : List ℕ → List ℕ
bad rest = 0 ∷ 0 ∷ 0 ∷ 1 ∷ rest

-- What the first two say as axes of some numbers.
abbrev pub x4_entry : ℕ → Entry
x4_entry k = record { axis = k; saved = record { config = record { kind = 4; depth = 3; width = 0; turn = 4096 }; position = negsuc 1 } }

abbrev pub narrow_entry : ℕ → Entry
narrow_entry k = record { axis = k; saved = record { config = record { kind = 8; depth = 0; width = 12; turn = 0 }; position = pos 70000 } }

-- Rows are saved in their order, empty ones left out; a broken one is found wherever it stands.
pub table_measured :
    (map (entries_to 3) (x4 (none (narrow [])) ∷ none (none (none [])) ∷ []) ≡ (x4_entry 0 ∷ narrow_entry 2 ∷ []) ∷ [] ∷ [])
    × (map (size_to 3) (x4 (none (narrow [])) ∷ narrow (bad (none [])) ∷ [])
    ≡ record { count = 2; bytes = 53; broken = false } ∷ record { count = 1; bytes = 23; broken = true } ∷ [])
unfolding status_of position_of row_at row_says entries_to any_row size_to bytes_of field_bytes front_bytes setting_bytes axis_bytes entry_bytes
    entries_bytes
table_measured = (refl, refl)

-- LENGTH, then BROKEN, then ROOM, or the number of bytes: 65 for the example of docs/FORMATS.md, 12 for a table of empty rows.
pub save_stated :
    table_save_in 65 (x4 (none (narrow [])))
    ∷ table_save_in 64 (x4 (none (narrow [])))
    ∷ table_save_in 0 (x4 (bad []))
    ∷ table_save_in 0 (bad (0 ∷ []))
    ∷ table_save_in 12 (none [])
    ∷ []
    ≡ Ok 65 ∷ Err Room ∷ Err Broken ∷ Err Length ∷ Ok 12 ∷ []
unfolding most_axes axes_in status_of position_of row_at row_says entries_to any_row table_save_in bytes_of field_bytes front_bytes setting_bytes axis_bytes
    entry_bytes entries_bytes table_front table_record_of
save_stated = refl

-- A record of axis 1, a counter, and of no axis.
abbrev pub one : List ℕ
one =
    1 ∷ 0 ∷ 2 ∷ 0 ∷ 2 ∷ 8 ∷ 0 ∷ 1 ∷ 1 ∷ 9 ∷ 0 ∷ 1 ∷ 1 ∷ 2 ∷ 0 ∷ 1 ∷ 8 ∷ 3 ∷ 0 ∷ 8 ∷ 0 ∷ 0 ∷ 0 ∷ 0 ∷ 0 ∷ 1 ∷ 17 ∷ 112
    ∷ 5 ∷ 0 ∷ 1 ∷ 12 ∷ 127 ∷ 0 ∷ 0 ∷ []

abbrev pub zero_axes : List ℕ
zero_axes = 1 ∷ 0 ∷ 2 ∷ 0 ∷ 2 ∷ 8 ∷ 0 ∷ 1 ∷ 0 ∷ 127 ∷ 0 ∷ 0 ∷ []

-- LENGTH, then the record, then AXIS, then OCCUPIED of any row, for no axis too, or the axes that are put.
pub restore_stated :
    table_ruling [] (0 ∷ [])
    ∷ table_ruling (1 ∷ 0 ∷ 2 ∷ 0 ∷ 1 ∷ []) (x4 [])
    ∷ table_ruling one (x4 [])
    ∷ table_ruling one (none (none (bad [])))
    ∷ table_ruling zero_axes (none (narrow []))
    ∷ table_ruling one (none (none []))
    ∷ table_ruling zero_axes (none [])
    ∷ []
    ≡ Err Length ∷ Err (Layout 1) ∷ Err Axis ∷ Err Occupied ∷ Err Occupied ∷ Ok (narrow_entry 1 ∷ []) ∷ Ok [] ∷ []
unfolding most_axes axes_in row_at number_from starts field_at good_config in_range layout_refusal counter_from sampled_from saved_at entry_from closes_at
    entries_at table_read_as any_row all_below table_ruling
restore_stated = refl

-- Every word of the table that is left.
pub restore_left : table_left (none (none (none []))) (Ok (x4_entry 0 ∷ narrow_entry 2 ∷ [])) ≡ x4 (none (narrow []))
unfolding set_row filled word_of
restore_left = refl
