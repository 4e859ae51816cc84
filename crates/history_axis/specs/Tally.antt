-- Position, RANGE and doubles after a history h that started from the axis x: docs/RULES.md, "A port sample", Count.
use Rattle.std.specs.Prelude.{ℕ, ◌+◌, min, Bool, false, cond, not, ◌||◌, List, [], ◌∷◌, ◌++◌, ℤ, pos, ◌+ℤ◌}
use Rattle.position.specs.Position.{in_range, position_of}
use Rattle.axis.specs.declared.row.Axis.{Axis}
use Rattle.axis_decode.specs.Decode.{worth}
use Rattle.axis_decode.specs.declared.Move.{Move}
use Rattle.history_axis.specs.Acts.{Act, sampled, preset, arm, acknowledge}
use Rattle.history_axis.specs.Entries.{entry_at, number_of_e}
use Rattle.history_axis.specs.Edge.{backward_at}
use Rattle.history_axis.specs.Homing.{homes_at}

-- What was given last, and the entries since, newest first.
pub record Tally (N : Type 0) : Type 0 where
  pub value : N
  pub moves : List Move

-- A value that was given just now.
abbrev pub given : {N : Type 0} → N → Tally N
given v = record { value = v; moves = [] }

-- A tally with newer entries.
abbrev pub onward : {N : Type 0} → List Move → Tally N → Tally N
onward ms t = record { value = t.value; moves = ms ++ t.moves }

-- A position, and the RANGE flag with it.
pub record Place : Type 0 where
  pub position : ℤ
  pub range : Bool

-- A position that is given clears RANGE.
abbrev pub clear : ℤ → Place
clear p = record { position = p; range = false }

-- The tally after a sample that homes: from 0, and where the edge was met backward with the sample's own entry.
abbrev pub homed_tally : Bool → List Move → Tally Place
homed_tally backward ms = record { value = clear (pos 0); moves = cond backward ms [] }

-- The position's tally: given by a preset and, as 0, by a homing; before the first of these, as the starting axis has it.
unfoldable pub place_tally : Axis → List Act → Tally Place
place_tally x [] = given (record { position = position_of x.word; range = x.flags.range })
place_tally x (sampled s ∷ h) =
    cond (homes_at x s h) (homed_tally (backward_at x s h) (entry_at x s h)) (onward (entry_at x s h) (place_tally x h))
place_tally x (preset p ∷ h) = given (clear p)
place_tally x (arm ∷ h) = place_tally x h
place_tally x (acknowledge ∷ h) = place_tally x h

-- The sum of some entries.
unfoldable pub sum : List Move → ℤ
sum [] = pos 0
sum (m ∷ ms) = sum ms +ℤ worth m

-- Whether an entry at the position p is held: the step would leave the range.
unfoldable pub holds : ℤ → Move → Bool
holds p m = not (in_range (p +ℤ worth m))

-- The position after some entries from the position z: each counts but those that are held.
unfoldable pub walk : ℤ → List Move → ℤ
walk z [] = z
walk z (m ∷ ms) = cond (holds (walk z ms) m) (walk z ms) (walk z ms +ℤ worth m)

-- Whether some entry was held.
unfoldable pub held_in : ℤ → List Move → Bool
held_in z [] = false
held_in z (m ∷ ms) = held_in z ms || holds (walk z ms) m

-- The position of a tally: from the value given, by the entries.
abbrev pub walked : Tally Place → ℤ
walked t = walk t.value.position t.moves

-- The position after a history.
abbrev pub position_at : Axis → List Act → ℤ
position_at x h = walked (place_tally x h)

-- RANGE of a tally: as it was given, or set by an entry that was held.
abbrev pub ranged : Tally Place → Bool
ranged t = t.value.range || held_in t.value.position t.moves

-- RANGE after a history.
abbrev pub range_at : Axis → List Act → Bool
range_at x h = ranged (place_tally x h)

-- The doubles' tally: given, as 0, by an acknowledge; before the first, as the starting axis has it.
unfoldable pub doubles_tally : Axis → List Act → Tally ℕ
doubles_tally x [] = given x.doubles
doubles_tally x (sampled s ∷ h) = onward (entry_at x s h) (doubles_tally x h)
doubles_tally x (preset p ∷ h) = doubles_tally x h
doubles_tally x (arm ∷ h) = doubles_tally x h
doubles_tally x (acknowledge ∷ h) = given 0

-- Doubles of a tally: the smaller of 65,535 and what was given with the E entries since.
abbrev pub doubled : Tally ℕ → ℕ
doubled t = min 65535 (t.value + number_of_e t.moves)

-- Doubles after a history.
abbrev pub doubles_at : Axis → List Act → ℕ
doubles_at x h = doubled (doubles_tally x h)
