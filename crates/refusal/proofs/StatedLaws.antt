-- What docs/RULES.md states, computed to its end: "Reasons for saying no".
use mathlib.Core.Path.{◌≡◌, refl}
use mathlib.Core.List.{List, [], ◌∷◌, map}
use Prim.Native.Nat.{ℕ}
use Rattle.refusal.specs.declared.Refusal.{Refusal}
use Rattle.refusal.specs.declared.Refusal.TheVariants.{Length, Axis, Broken, Empty, Kind, Value}
use Rattle.refusal.specs.declared.Refusal.TheVariants.{Half, Range, NoPeriod, Room, Layout, Record, Occupied}
use Rattle.std.specs.Prelude.{codes, ◌++◌, decimal}
use Rattle.refusal.specs.Refusal.{number_of, found_in, name_of}
use Rattle.refusal.specs.Order.{checked, restoring, restoring_all, place_in}

-- The thirteen reasons by name, in the order of their numbers.
abbrev names : ℕ → List Refusal
names n =
    Length ∷ Axis ∷ Broken ∷ Empty ∷ Kind ∷ Value ∷ Half ∷ Range ∷ NoPeriod ∷ Room ∷ Layout n ∷ Record ∷ Occupied ∷ []

-- Their numbers are 1 to 13, and LAYOUT alone carries a number found.
pub numbered : (n : ℕ) →
    (map number_of (names n) ≡ 1 ∷ 2 ∷ 3 ∷ 4 ∷ 5 ∷ 6 ∷ 7 ∷ 8 ∷ 9 ∷ 10 ∷ 11 ∷ 12 ∷ 13 ∷ [])
    × (map found_in (names n) ≡ 0 ∷ 0 ∷ 0 ∷ 0 ∷ 0 ∷ 0 ∷ 0 ∷ 0 ∷ 0 ∷ 0 ∷ n ∷ 0 ∷ 0 ∷ [])
numbered n = (refl, refl)

-- Their names in that order; that of LAYOUT ends in the number found.
pub named : (n : ℕ) → map name_of (names n) ≡
    codes "LENGTH" ∷ codes "AXIS" ∷ codes "BROKEN" ∷ codes "EMPTY" ∷ codes "KIND" ∷ codes "VALUE" ∷ codes "HALF" ∷ codes "RANGE"
    ∷ codes "NO PERIOD" ∷ codes "ROOM" ∷ (codes "LAYOUT " ++ decimal n) ∷ codes "RECORD" ∷ codes "OCCUPIED" ∷ []
named n = refl

-- They are checked in the order of their numbers but for OCCUPIED, which comes after KIND and before VALUE; a number that is no reason's
-- comes after all.
pub in_turn : map (place_in checked) (1 ∷ 2 ∷ 3 ∷ 4 ∷ 5 ∷ 13 ∷ 6 ∷ 7 ∷ 8 ∷ 9 ∷ 10 ∷ 11 ∷ 12 ∷ 14 ∷ [])
    ≡ 0 ∷ 1 ∷ 2 ∷ 3 ∷ 4 ∷ 5 ∷ 6 ∷ 7 ∷ 8 ∷ 9 ∷ 10 ∷ 11 ∷ 12 ∷ 13 ∷ []
in_turn = refl

-- In a restore OCCUPIED comes after all that the record may be refused for, and a number that is none of these after it.
pub restored_in_turn : map (place_in restoring) (1 ∷ 2 ∷ 11 ∷ 12 ∷ 6 ∷ 13 ∷ 14 ∷ []) ≡ 0 ∷ 1 ∷ 2 ∷ 3 ∷ 4 ∷ 5 ∷ 6 ∷ []
restored_in_turn = refl

-- In a restore of a whole table AXIS and OCCUPIED come after it.
pub restored_all_in_turn : map (place_in restoring_all) (1 ∷ 11 ∷ 12 ∷ 6 ∷ 2 ∷ 13 ∷ 14 ∷ []) ≡ 0 ∷ 1 ∷ 2 ∷ 3 ∷ 4 ∷ 5 ∷ 6 ∷ []
restored_all_in_turn = refl
