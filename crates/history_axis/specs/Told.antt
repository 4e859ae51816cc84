-- The axis that a history tells, field by field: docs/RULES.md, "One row, four words".
use Rattle.std.specs.Prelude.{List, [], ◌∷◌}
use Rattle.position.specs.Position.{word_of}
use Rattle.axis.specs.declared.row.Axis.{Axis}
use Rattle.axis_filter.specs.Lines.{A, B, Z}
use Rattle.axis_filter.specs.declared.Raw.{Raw}
use Rattle.axis_sample.specs.declared.step.Stepped.{Stepped}
use Rattle.history_axis.specs.Acts.{Act, sampled}
use Rattle.history_axis.specs.Levels.{primed_at, level_at, run_at}
use Rattle.history_axis.specs.Entries.{entries, double_at}
use Rattle.history_axis.specs.Edge.{edge_at}
use Rattle.history_axis.specs.Homing.{armed_at, homed_at}
use Rattle.history_axis.specs.Tally.{position_at, range_at, doubles_at}
use Rattle.history_axis.specs.Pace.{pace_of}
use Rattle.history_axis.specs.Index.{index_at}

-- The axis after a history h that started from the axis x, by the starting axis and the acts alone; a configuration never changes.
unfoldable pub told_axis : Axis → List Act → Axis
told_axis x h = record {
  word = word_of (position_at x h);
  config = x.config;
  flags = record { primed = primed_at x h; armed = armed_at x h; homed = homed_at x h; range = range_at x h; index = index_at x h };
  levels = level_at x A h ∷ level_at x B h ∷ level_at x Z h ∷ [];
  runs = run_at x A h ∷ run_at x B h ∷ run_at x Z h ∷ [];
  doubles = doubles_at x h;
  pace = pace_of x.pace (entries x h);
}

-- The axis after the sample s after h, and its bits of the answer.
unfoldable pub answered : Axis → Raw → List Act → Stepped
answered x s h = record { axis = told_axis x (sampled s ∷ h); double = double_at x s h; index = edge_at x s h }
