-- What docs/RULES.md states of save and restore, computed to its end in words and bytes: "The saved record", "Readings to hold it against".
use Rattle.std.specs.Prelude.{Ok, Err}
use Prim.Native.Nat.{ℕ, ◌+◌, ◌-◌, ◌*◌, ◌^◌}
use mathlib.Core.Path.{refl}
use mathlib.Core.List.{List, [], ◌∷◌, ◌++◌}
use lib.ListN.{replicate}
use Rattle.position.specs.Position.{in_range, word_of, position_of}
use Rattle.refusal.specs.declared.Refusal.TheVariants.{Broken, Empty, Value, Room, Layout, Record, Occupied}
use Rattle.axis.specs.Config.{good_config}
use Rattle.axis.specs.declared.row.Row.{Row}
use Rattle.axis_sound.specs.Sound.{status_of}
use Rattle.tagged.specs.Bytes.{number_from, bytes_of, starts}
use Rattle.tagged.specs.Field.{field_bytes, field_at}
use Rattle.record_axis.specs.AxisFields.{counter_at, sampled_at, axis_at, front_bytes, setting_bytes, axis_bytes}
use Rattle.record_axis.specs.Limits.{within_limits}
use Rattle.record.specs.Record.{layout_refusal, ended_at, read_as, record_of, saved_as, written}
use Rattle.row_calls.proofs.StatedLaws.{◌is◌, AsStated, words, PRIMED, HOMED, RANGE, INDEX, counter, empty, broken}
use Rattle.row_saving.specs.Saving.{save_row, saved_in, restored_by, restore_row}

-- The record of an x4 axis of depth 3 with 4096 counts a turn at position -2.
abbrev pub sampled : List ℕ
sampled =
    1 ∷ 0 ∷ 2 ∷ 0 ∷ 1 ∷ 2 ∷ 0 ∷ 1 ∷ 4 ∷ 3 ∷ 0 ∷ 8 ∷ 255 ∷ 255 ∷ 255 ∷ 255 ∷ 255 ∷ 255 ∷ 255 ∷ 254 ∷ 4 ∷ 0 ∷ 1 ∷ 3
    ∷ 6 ∷ 0 ∷ 4 ∷ 0 ∷ 0 ∷ 16 ∷ 0 ∷ 127 ∷ 0 ∷ 0 ∷ []

-- The record of a counter of 8 bits at position 250.
abbrev pub narrow : List ℕ
narrow =
    1 ∷ 0 ∷ 2 ∷ 0 ∷ 1 ∷ 2 ∷ 0 ∷ 1 ∷ 8 ∷ 3 ∷ 0 ∷ 8 ∷ 0 ∷ 0 ∷ 0 ∷ 0 ∷ 0 ∷ 0 ∷ 0 ∷ 250 ∷ 5 ∷ 0 ∷ 1 ∷ 8 ∷ 127 ∷ 0 ∷ 0 ∷ []

-- That x4 axis, with flags, levels, runs, doubles, direction, age and period, of which nothing is saved.
abbrev axle : Row
axle =
    let lines = 2 ^ 20 + 1 * 2 ^ 22 + 2 * 2 ^ 25 + 1 * 2 ^ 28 in
    words (2 ^ 62 - 2) (52 + PRIMED + HOMED + RANGE + INDEX + lines + 300 * 2 ^ 32 + 1 * 2 ^ 48) (5 + 9 * 2 ^ 32) 4096

-- A save answers 34 bytes, or 27 for a counter, ROOM where the buffer is smaller, EMPTY and BROKEN.
pub save_stated : AsStated (
    (save_row 34 axle is Ok 34)
    ∷ (save_row 33 axle is Err Room)
    ∷ (save_row 40 (counter (2 ^ 62 + 250)) is Ok 27)
    ∷ (save_row 26 (counter (2 ^ 62 + 250)) is Err Room)
    ∷ (save_row 0 empty is Err Empty)
    ∷ (save_row 0 broken is Err Broken)
    ∷ [])
unfolding position_of in_range good_config status_of bytes_of field_bytes front_bytes setting_bytes axis_bytes within_limits record_of saved_as save_row
save_stated = refl

-- It writes the record at the front and touches nothing beyond; on a refusal every byte stays.
pub bytes_stated : AsStated (
    (saved_in (replicate 36 9) axle is sampled ++ (9 ∷ 9 ∷ []))
    ∷ (saved_in (replicate 33 9) axle is replicate 33 9)
    ∷ (saved_in (replicate 28 9) (counter (2 ^ 62 + 250)) is narrow ++ (9 ∷ []))
    ∷ (saved_in (replicate 36 9) empty is replicate 36 9)
    ∷ (saved_in (replicate 36 9) broken is replicate 36 9)
    ∷ [])
unfolding position_of in_range good_config status_of bytes_of field_bytes front_bytes setting_bytes axis_bytes within_limits record_of written saved_in
bytes_stated = refl

-- A restore makes of an empty row the record's configuration at its position and zeros besides; a record that is refused is so on every
-- row, for its own reason; and one that is accepted is OCCUPIED where one bit of one word is set, or more.
pub restore_stated : (r : Row) → AsStated (
    (restore_row sampled empty is Ok (words (2 ^ 62 - 2) 52 0 4096))
    ∷ (restore_row narrow empty is Ok (counter (2 ^ 62 + 250)))
    ∷ (restore_row (1 ∷ 0 ∷ 2 ∷ 0 ∷ 7 ∷ []) r is Err (Layout 7))
    ∷ (restore_row (1 ∷ 0 ∷ 2 ∷ 0 ∷ 1 ∷ 2 ∷ 0 ∷ 1 ∷ 3 ∷ []) r is Err Value)
    ∷ (restore_row (1 ∷ 0 ∷ 2 ∷ 0 ∷ 1 ∷ 2 ∷ 0 ∷ 1 ∷ 4 ∷ []) r is Err Record)
    ∷ (restore_row sampled axle is Err Occupied)
    ∷ (restore_row narrow (counter (2 ^ 62 + 250)) is Err Occupied)
    ∷ (restore_row narrow (words 1 0 0 0) is Err Occupied)
    ∷ (restore_row narrow (words 0 1 0 0) is Err Occupied)
    ∷ (restore_row narrow (words 0 0 1 0) is Err Occupied)
    ∷ (restore_row narrow broken is Err Occupied)
    ∷ [])
unfolding in_range word_of good_config number_from starts field_at counter_at sampled_at axis_at within_limits layout_refusal ended_at read_as
    restored_by restore_row
restore_stated r = refl
