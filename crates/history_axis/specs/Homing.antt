-- Homing in a history h that started from the axis x: docs/RULES.md, "A port sample", Index, and "Calls that name one axis", Arm
-- and Preset.
use Rattle.std.specs.Prelude.{Bool, true, false, not, ◌&&◌, ◌||◌, List, [], ◌∷◌}
use Rattle.axis.specs.declared.row.Axis.{Axis}
use Rattle.axis_filter.specs.declared.Raw.{Raw}
use Rattle.history_axis.specs.Acts.{Act, sampled, preset, arm, acknowledge}
use Rattle.history_axis.specs.Edge.{edge_at}

-- ARMED: from an arm to the next reference edge.
unfoldable pub armed_at : Axis → List Act → Bool
armed_at x [] = x.flags.armed
armed_at x (sampled s ∷ h) = armed_at x h && not (edge_at x s h)
armed_at x (preset p ∷ h) = armed_at x h
armed_at x (arm ∷ h) = true
armed_at x (acknowledge ∷ h) = armed_at x h

-- Whether the sample s after h homes: a reference edge on an armed axis.
unfoldable pub homes_at : Axis → Raw → List Act → Bool
homes_at x s h = armed_at x h && edge_at x s h

-- HOMED: from a homing to the next preset or arm.
unfoldable pub homed_at : Axis → List Act → Bool
homed_at x [] = x.flags.homed
homed_at x (sampled s ∷ h) = homed_at x h || homes_at x s h
homed_at x (preset p ∷ h) = false
homed_at x (arm ∷ h) = false
homed_at x (acknowledge ∷ h) = homed_at x h
