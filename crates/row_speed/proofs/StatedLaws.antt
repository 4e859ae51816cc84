-- What docs/RULES.md states of speed by period, computed to its end from four words: "Calls that name one axis".
use Rattle.std.specs.Prelude.{Ok, Err}
use Prim.Native.Nat.{ℕ, ◌+◌, ◌*◌, ◌^◌}
use mathlib.Core.Path.{refl}
use mathlib.Core.List.{[], ◌∷◌}
use lib.IntN.{pos, negsuc}
use Rattle.refusal.specs.declared.Refusal.TheVariants.{Broken, Empty, Kind, Value, NoPeriod}
use Rattle.speed.specs.Rounding.{rounded, divided}
use Rattle.speed.specs.Speed.{good_count, good_speed, speed_by_count}
use Rattle.speed.proofs.StatedLaws.{parts}
use Rattle.axis.specs.declared.row.Row.{Row}
use Rattle.axis_sound.specs.Sound.{status_of}
use Rattle.row_calls.proofs.StatedLaws.{◌is◌, AsStated, words, PRIMED, counter, empty, broken}
use Rattle.row_speed.specs.Speed.{speed_of, speed_row}

-- A primed x4 row of depth 1 with a direction, an age and a period.
abbrev pub paced : ℕ → ℕ → ℕ → Row
paced direction age period = words (2 ^ 62) (4 + 1 * 2 ^ 4 + PRIMED + direction * 2 ^ 48) (age + period * 2 ^ 32) 0

-- A speed is 1000 times the rate over the larger of period and age, with the direction's sign: 1 is forward, 2 is back. Refusals are
-- BROKEN, EMPTY, KIND for a counter, VALUE for a rate outside 1 to 1,000,000, and NO PERIOD, in this order.
pub speed_stated : AsStated (
    (speed_row 1000 (paced 1 0 5) is Ok (parts (pos 200000) (pos 0) 5))
    ∷ (speed_row 1000 (paced 1 4 5) is Ok (parts (pos 200000) (pos 0) 5))
    ∷ (speed_row 1000 (paced 1 12 5) is Ok (parts (pos 83333) (pos 4) 12))
    ∷ (speed_row 1000 (paced 1 5 12) is Ok (parts (pos 83333) (pos 4) 12))
    ∷ (speed_row 1000 (paced 2 0 5) is Ok (parts (negsuc 199999) (pos 0) 5))
    ∷ (speed_row 1000 (paced 2 12 5) is Ok (parts (negsuc 83332) (negsuc 3) 12))
    ∷ (speed_row 1 (paced 2 2000 1) is Ok (parts (negsuc 0) (pos 1000) 2000))
    ∷ (speed_row 1000000 (paced 1 0 1) is Ok (parts (pos 1000000000) (pos 0) 1))
    ∷ (speed_row 1 (paced 1 4294967295 4294967294) is Ok (parts (pos 0) (pos 1000) 4294967295))
    ∷ (speed_row 0 (paced 1 0 5) is Err Value)
    ∷ (speed_row 1000001 (paced 1 0 0) is Err Value)
    ∷ (speed_row 1000 (paced 1 12 0) is Err NoPeriod)
    ∷ (speed_row 1000 (paced 0 12 0) is Err NoPeriod)
    ∷ (speed_row 0 (counter (2 ^ 62)) is Err Kind)
    ∷ (speed_row 0 empty is Err Empty)
    ∷ (speed_row 0 broken is Err Broken)
    ∷ [])
unfolding rounded divided good_count good_speed speed_by_count status_of speed_of speed_row
speed_stated = refl
