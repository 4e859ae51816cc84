-- The index check in a history h that started from the axis x: docs/RULES.md, "A port sample", Index, and "Calls that name one axis",
-- Acknowledge.
use Rattle.std.specs.Prelude.{Bool, false, cond, not, ◌&&◌, ◌||◌, List, [], ◌∷◌, ℤ}
use Rattle.axis.specs.declared.row.Axis.{Axis}
use Rattle.axis_index.specs.Index.{off_turn}
use Rattle.axis_filter.specs.declared.Raw.{Raw}
use Rattle.history_axis.specs.Acts.{Act, sampled, preset, arm, acknowledge}
use Rattle.history_axis.specs.Entries.{entry_at}
use Rattle.history_axis.specs.Edge.{backward_at, edge_at}
use Rattle.history_axis.specs.Homing.{armed_at, homed_at}
use Rattle.history_axis.specs.Tally.{onward, walked, place_tally, position_at}

-- The position that the sample s after h is checked by: that after its count, or before it where the edge is met backward.
unfoldable pub checked_at : Axis → Raw → List Act → ℤ
checked_at x s h = cond (backward_at x s h) (position_at x h) (walked (onward (entry_at x s h) (place_tally x h)))

-- INDEX: from a reference edge, on an axis that is homed and not armed, where the position is no multiple of the counts per turn, to an
-- acknowledge.
unfoldable pub index_at : Axis → List Act → Bool
index_at x [] = x.flags.index
index_at x (sampled s ∷ h) =
    index_at x h || (edge_at x s h && not (armed_at x h) && homed_at x h && off_turn x.config.turn (checked_at x s h))
index_at x (preset p ∷ h) = index_at x h
index_at x (arm ∷ h) = index_at x h
index_at x (acknowledge ∷ h) = false
