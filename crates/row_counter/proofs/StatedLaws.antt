-- What docs/RULES.md states of a reading, computed to its end from four words: "Calls that name one axis", "Readings to hold it against".
use Rattle.std.specs.Prelude.{Ok, Err}
use Prim.Native.Nat.{◌+◌, ◌-◌, ◌*◌, ◌^◌}
use mathlib.Core.Path.{refl}
use mathlib.Core.List.{[], ◌∷◌}
use lib.Dec.{lit<}
use lib.IntN.{pos, negsuc}
use Rattle.integers.specs.Integer.{mod_z}
use Rattle.position.specs.Position.{in_range, word_of, position_of}
use Rattle.refusal.specs.declared.Refusal.TheVariants.{Broken, Empty, Kind, Value, Half, Range}
use Rattle.reckon.specs.Widening.{good_reading, or_range, nearest_to, widened}
use Rattle.axis_sound.specs.Sound.{status_of}
use Rattle.row_calls.specs.Change.{changed}
use Rattle.row_calls.proofs.StatedLaws.{◌is◌, AsStated, words, PRIMED, busy, counter, empty, broken}
use Rattle.row_counter.specs.Reading.{reading_row, stored_row, read_row}
use Rattle.row_counter.specs.Counter.{UnderHalf, still, polled}

-- A reading of a counter answers the nearest position with its low bits, by the counter's own width and position; a row of another kind is
-- KIND, also where the reading would be VALUE.
pub reading_stated : AsStated (
    (reading_row 3 (counter (2 ^ 62 + 250)) is Ok (pos 259))
    ∷ (reading_row 121 (counter (2 ^ 62 + 250)) is Ok (pos 377))
    ∷ (reading_row 122 (counter (2 ^ 62 + 250)) is Err Half)
    ∷ (reading_row 123 (counter (2 ^ 62 + 250)) is Ok (pos 123))
    ∷ (reading_row 0 (counter (2 ^ 62 - 1)) is Ok (pos 0))
    ∷ (reading_row 256 (counter (2 ^ 62 + 250)) is Err Value)
    ∷ (reading_row 0 (counter (2 ^ 63 - 1)) is Err Range)
    ∷ (reading_row 127 (counter (2 ^ 63 - 1)) is Err Half)
    ∷ (reading_row 256 (words (2 ^ 62) (8 + 9 * 2 ^ 8) 0 0) is Err Half)
    ∷ (reading_row 4294967295 (words (2 ^ 62) (8 + 32 * 2 ^ 8) 0 0) is Ok (negsuc 0))
    ∷ (reading_row 1099511627776 (busy (2 ^ 62 + 250) PRIMED 0) is Err Kind)
    ∷ (reading_row 3 empty is Err Empty)
    ∷ (reading_row 3 broken is Err Broken)
    ∷ [])
unfolding mod_z in_range position_of good_reading or_range nearest_to widened status_of reading_row
reading_stated = refl

-- The position is stored in word 0 and nothing else changes; a refusal keeps the row.
pub row_stated : AsStated (
    (read_row 3 (counter (2 ^ 62 + 250)) is Ok (counter (2 ^ 62 + 259)))
    ∷ (read_row 255 (words (2 ^ 62) (8 + 32 * 2 ^ 8) 0 0) is Ok (words (2 ^ 62 + 255) (8 + 32 * 2 ^ 8) 0 0))
    ∷ (read_row 255 (counter (2 ^ 62)) is Ok (counter (2 ^ 62 - 1)))
    ∷ (read_row 122 (counter (2 ^ 62 + 250)) is Err Half)
    ∷ (read_row 3 (busy (2 ^ 62 + 250) PRIMED 0) is Err Kind)
    ∷ (read_row 3 empty is Err Empty)
    ∷ (read_row 3 broken is Err Broken)
    ∷ [])
unfolding mod_z in_range word_of position_of good_reading or_range nearest_to widened status_of changed reading_row stored_row read_row
row_stated = refl

-- A shaft may move 127 steps either way between two readings of 8 bits, one less than half a turn.
pub half_stated : UnderHalf 8 (pos 250) (pos 250 ∷ pos 123 ∷ pos 250 ∷ pos 377 ∷ [])
unfolding in_range
half_stated =
    polled (pos 250) _ refl (lit< tt) (polled (pos 123) _ refl (lit< tt) (polled (pos 250) _ refl (lit< tt)
    (polled (pos 377) _ refl (lit< tt) still)))
