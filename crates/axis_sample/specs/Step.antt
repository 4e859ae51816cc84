-- A sample on an axis: docs/RULES.md, "A port sample".
use Rattle.std.specs.Prelude.{Bool, true, false, [], ◌∷◌}
use Rattle.axis.specs.Flags.{with_primed}
use Rattle.axis.specs.declared.row.Axis.{Axis}
use Rattle.axis_decode.specs.Decode.{is_e}
use Rattle.axis_index.specs.Index.{met}
use Rattle.axis_settle.specs.Lines.{filtered, move_to, edge_to}
use Rattle.axis_settle.specs.Settle.{settle}
use Rattle.axis_decode.specs.declared.Move.{Move}
use Rattle.axis_filter.specs.declared.Raw.{Raw}
use Rattle.axis_sample.specs.declared.step.Stepped.{Stepped}

-- Priming takes the three levels as they are, and does no more.
unfoldable pub primed_by : Axis → Raw → Axis
primed_by x s = record {
  word = x.word;
  config = x.config;
  flags = with_primed true x.flags;
  levels = s.a ∷ s.b ∷ s.z ∷ [];
  runs = 0 ∷ 0 ∷ 0 ∷ [];
  doubles = x.doubles;
  pace = x.pace;
}

-- The entry of a sample on a primed axis.
abbrev pub move_of : Axis → Raw → Move
move_of x s = move_to x (filtered x s)

-- Whether a sample on a primed axis is a reference edge.
abbrev pub edge_met : Axis → Raw → Bool
edge_met x s = met (edge_to x (filtered x s))

-- A primed axis after a sample.
abbrev pub advanced : Axis → Raw → Axis
advanced x s = settle x (filtered x s)

-- A sample on an axis that is primed, or is not: the axis after it, and its bits of the answer.
unfoldable pub outcome : Bool → Axis → Raw → Stepped
outcome true x s = record { axis = advanced x s; double = is_e (move_of x s); index = edge_met x s }
outcome false x s = record { axis = primed_by x s; double = false; index = false }

-- A sample on an axis.
unfoldable pub step_axis : Axis → Raw → Stepped
step_axis x s = outcome x.flags.primed x s
