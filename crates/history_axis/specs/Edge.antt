-- The reference edge in a history h that started from the axis x: docs/RULES.md, "A port sample", Index.
use Rattle.std.specs.Prelude.{Bool, not, ◌&&◌, ◌||◌, List, ◌∷◌}
use Rattle.axis.specs.Kind.{X4}
use Rattle.axis.specs.declared.row.Axis.{Axis}
use Rattle.axis_filter.specs.Lines.{Z}
use Rattle.axis_decode.specs.Decode.{entry, is_p, is_m}
use Rattle.axis_decode.specs.declared.Move.{Move}
use Rattle.axis_filter.specs.declared.Raw.{Raw}
use Rattle.history_axis.specs.Acts.{Act, sampled}
use Rattle.history_axis.specs.Levels.{primed_at, level_at}
use Rattle.history_axis.specs.Entries.{code_at}

-- x4's entry of the sample s after h, whatever the mode counts.
unfoldable pub quarter_at : Axis → Raw → List Act → Move
quarter_at x s h = entry X4 (code_at x h) (code_at x (sampled s ∷ h))

-- Whether filtered Z goes from 0 to 1 at the sample s after h.
abbrev rises_at : Axis → Raw → List Act → Bool
rises_at x s h = not (level_at x Z h) && level_at x Z (sampled s ∷ h)

-- Whether it goes from 1 to 0.
abbrev falls_at : Axis → Raw → List Act → Bool
falls_at x s h = level_at x Z h && not (level_at x Z (sampled s ∷ h))

-- Whether the sample s after h is a reference edge that is met forward: on a primed axis Z rises where x4's entry is +.
unfoldable pub forward_at : Axis → Raw → List Act → Bool
forward_at x s h = primed_at x h && (is_p (quarter_at x s h) && rises_at x s h)

-- Whether it is one that is met backward: Z falls where x4's entry is -.
unfoldable pub backward_at : Axis → Raw → List Act → Bool
backward_at x s h = primed_at x h && (is_m (quarter_at x s h) && falls_at x s h)

-- Whether it is a reference edge.
unfoldable pub edge_at : Axis → Raw → List Act → Bool
edge_at x s h = forward_at x s h || backward_at x s h
