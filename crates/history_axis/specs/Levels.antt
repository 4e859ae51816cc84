-- The filtered lines after a history h that started from the axis x: docs/RULES.md, "A port sample", Priming and Filter.
use Rattle.std.specs.Prelude.{ℕ, Bool, true, cond, not, List, [], ◌∷◌, replicate}
use Rattle.axis.specs.declared.row.Axis.{Axis}
use Rattle.axis_filter.specs.Lines.{Wire, level_of}
use Rattle.axis_settle.specs.Lines.{line}
use Rattle.history_axis.specs.Acts.{Act, sampled, preset, arm, acknowledge}
use Rattle.history_axis.specs.Latest.{streak, latest}

-- PRIMED: set by the first sample, for good.
unfoldable pub primed_at : Axis → List Act → Bool
primed_at x [] = x.flags.primed
primed_at x (sampled s ∷ h) = true
primed_at x (preset p ∷ h) = primed_at x h
primed_at x (arm ∷ h) = primed_at x h
primed_at x (acknowledge ∷ h) = primed_at x h

-- A line's priming level, and its raw samples since the priming sample.
pub record Since : Type 0 where
  pub level : Bool
  pub raws : List Bool

-- What a history says of a line; a run of the starting axis counts as so many earlier samples of the other level.
unfoldable pub since : Axis → Wire → List Act → Since
since x w [] = record { level = (line x w).level; raws = replicate (line x w).run (not (line x w).level) }
since x w (sampled s ∷ h) =
    cond (primed_at x h) (record { level = (since x w h).level; raws = level_of s w ∷ (since x w h).raws })
    (record { level = level_of s w; raws = [] })
since x w (preset p ∷ h) = since x w h
since x w (arm ∷ h) = since x w h
since x w (acknowledge ∷ h) = since x w h

-- The filtered level of a line: that of the latest samples that were equal for the depth, or else the priming level.
unfoldable pub level_at : Axis → Wire → List Act → Bool
level_at x w h = latest x.config.depth (since x w h).level (since x w h).raws

-- The run of a line: how many of its newest samples differ from the filtered level, without a break.
unfoldable pub run_at : Axis → Wire → List Act → ℕ
run_at x w h = streak (not (level_at x w h)) (since x w h).raws
