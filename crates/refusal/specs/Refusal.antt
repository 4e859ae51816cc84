-- The reasons for saying no: docs/RULES.md, "Reasons for saying no".
use Rattle.std.specs.Prelude.{ℕ, List, ◌++◌, codes, decimal}
use Rattle.refusal.specs.declared.Refusal.{Refusal}
use Rattle.refusal.specs.declared.Refusal.TheVariants.{Length, Axis, Broken, Empty, Kind, Value}
use Rattle.refusal.specs.declared.Refusal.TheVariants.{Half, Range, NoPeriod, Room, Layout, Record, Occupied}

-- The number of each reason.
abbrev pub number_of : Refusal → ℕ
number_of Length = 1
number_of Axis = 2
number_of Broken = 3
number_of Empty = 4
number_of Kind = 5
number_of Value = 6
number_of Half = 7
number_of Range = 8
number_of NoPeriod = 9
number_of Room = 10
number_of (Layout n) = 11
number_of Record = 12
number_of Occupied = 13

-- LAYOUT carries the number found; every other reason carries no value, and shows 0.
abbrev pub found_in : Refusal → ℕ
found_in Length = 0
found_in Axis = 0
found_in Broken = 0
found_in Empty = 0
found_in Kind = 0
found_in Value = 0
found_in Half = 0
found_in Range = 0
found_in NoPeriod = 0
found_in Room = 0
found_in (Layout n) = n
found_in Record = 0
found_in Occupied = 0

-- The name of each reason, as text; behind that of LAYOUT stands the number found.
abbrev pub name_of : Refusal → List ℕ
name_of Length = codes "LENGTH"
name_of Axis = codes "AXIS"
name_of Broken = codes "BROKEN"
name_of Empty = codes "EMPTY"
name_of Kind = codes "KIND"
name_of Value = codes "VALUE"
name_of Half = codes "HALF"
name_of Range = codes "RANGE"
name_of NoPeriod = codes "NO PERIOD"
name_of Room = codes "ROOM"
name_of (Layout n) = codes "LAYOUT " ++ decimal n
name_of Record = codes "RECORD"
name_of Occupied = codes "OCCUPIED"
