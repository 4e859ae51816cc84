-- What docs/RULES.md states of the other calls on a table, computed to its end in words, bytes and numbers: "Calls that name one axis".
use Rattle.std.specs.Prelude.{Result, Ok, Err, ℤ}
use Prim.Native.Nat.{ℕ, ◌+◌, ◌-◌, ◌*◌, ◌^◌}
use mathlib.Core.Path.{◌≡◌, refl}
use mathlib.Core.Bool.{true, false}
use mathlib.Core.List.{List, [], ◌∷◌, ◌++◌}
use lib.IntN.{pos, negsuc}
use lib.ListN.{replicate}
use Rattle.integers.specs.Integer.{mod_z}
use Rattle.position.specs.Position.{in_range, word_of, position_of}
use Rattle.refusal.specs.declared.Refusal.TheVariants.{Axis, Room}
use Rattle.reckon.specs.Widening.{good_reading, or_range, nearest_to, widened}
use Rattle.speed.specs.Rounding.{rounded, divided}
use Rattle.speed.specs.Speed.{good_count, good_speed, speed_by_count}
use Rattle.speed.proofs.StatedLaws.{parts}
use Rattle.tagged.specs.Bytes.{bytes_of}
use Rattle.tagged.specs.Field.{field_bytes}
use Rattle.axis.specs.Config.{good_config}
use Rattle.axis.specs.Limit.{most_axes}
use Rattle.axis_sound.specs.Sound.{status_of}
use Rattle.record_axis.specs.AxisFields.{front_bytes, setting_bytes, axis_bytes}
use Rattle.record_axis.specs.Limits.{within_limits}
use Rattle.record.specs.Record.{record_of, saved_as, written}
use Rattle.row_calls.specs.Change.{changed}
use Rattle.row_calls.proofs.StatedLaws.{◌is◌, AsStated, PRIMED}
use Rattle.row_view.specs.View.{view_row}
use Rattle.row_counter.specs.Reading.{reading_row, stored_row, read_row}
use Rattle.row_speed.specs.Speed.{speed_of, speed_row}
use Rattle.row_saving.specs.Saving.{save_row, saved_in}
use Rattle.row_saving.proofs.StatedLaws.{sampled}
use Rattle.table_rows.specs.Table.{axes_in, row_at, set_row}
use Rattle.table_rows.specs.Located.{located}
use Rattle.table_change.specs.Making.{table_after}
use Rattle.table.specs.Call.{viewed_in, speed_in, ReadingMakes, SaveMakes}
use Rattle.refusal.specs.declared.Refusal.{Refusal}

-- A counter of 8 bits at 250, and after it an x4 axis of depth 3 with 4096 counts a turn at -2, primed, forward, with a period of 7.
abbrev two : List ℕ
two = (2 ^ 62 + 250) ∷ 2056 ∷ 0 ∷ 0 ∷ (2 ^ 62 - 2) ∷ (52 + PRIMED + 1 * 2 ^ 48) ∷ 7 * 2 ^ 32 ∷ 4096 ∷ []

-- A view shows the axis that it names, and AXIS where there is none.
pub view_stated : AsStated (
    (viewed_in two 1 is Ok (record {
      kind = 4;
      position = negsuc 1;
      primed = true;
      armed = false;
      homed = false;
      range = false;
      index = false;
      doubles = 0;
    }))
    ∷ (viewed_in two 2 is Err Axis)
    ∷ [])
unfolding position_of most_axes status_of view_row axes_in row_at located
view_stated = refl

-- Speed by period is that of the axis that is named, at the rate.
pub speed_stated : speed_in 1000 two 1 ≡ Ok (parts (pos 142857) (pos 1) 7)
unfolding rounded divided good_count good_speed speed_by_count most_axes status_of speed_of speed_row axes_in row_at located
speed_stated = refl

-- A reading answers the position and stores it in the first word of the named row, and leaves the seven others.
pub reading_stated : {u : List ℕ} {a : Result ℤ Refusal} → ReadingMakes 3 two 0 u a →
    (a ≡ Ok (pos 259))
    × (u ≡ (2 ^ 62 + 259) ∷ 2056 ∷ 0 ∷ 0 ∷ (2 ^ 62 - 2) ∷ (52 + PRIMED + 1 * 2 ^ 48) ∷ 7 * 2 ^ 32 ∷ 4096 ∷ [])
unfolding mod_z in_range word_of position_of good_reading or_range nearest_to widened most_axes status_of changed reading_row stored_row read_row
    axes_in row_at set_row located table_after
reading_stated w = (w.answer, w.table)

-- A save answers the number of bytes and writes them at the front; 34 bytes are room for it, and 33 are not and stay.
pub save_stated : {d e f : List ℕ} {a b c : Result ℕ Refusal} →
    SaveMakes two 1 (replicate 36 9) d a → SaveMakes two 1 (replicate 34 9) e b → SaveMakes two 1 (replicate 33 9) f c →
    ((a ≡ Ok 34) × (d ≡ sampled ++ (9 ∷ 9 ∷ [])))
    × ((b ≡ Ok 34) × (e ≡ sampled))
    × ((c ≡ Err Room) × (f ≡ replicate 33 9))
unfolding position_of in_range good_config most_axes status_of bytes_of field_bytes front_bytes setting_bytes axis_bytes within_limits record_of saved_as
    written save_row saved_in axes_in row_at located
save_stated x y z = ((x.answer, x.buffer), (y.answer, y.buffer), (z.answer, z.buffer))
