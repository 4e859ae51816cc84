-- What a history starts from: docs/RULES.md, "One row, four words".
use Rattle.std.specs.Prelude.{◌^◌, ◌≤◌, ◌<◌, ◌≡◌, length}
use Rattle.position.specs.Position.{Word}
use Rattle.axis.specs.declared.row.Axis.{Axis}
use Rattle.axis_filter.specs.Lines.{Wire}
use Rattle.axis_settle.specs.Lines.{line}

-- What a history asks of its starting axis, which is no more than a sound sampled row gives.
pub record Start (x : Axis) : Type 0 where
  pub word : Word x.word
  pub short : (w : Wire) → (line x w).run < x.config.depth
  pub levels : length x.levels ≡ 3
  pub runs : length x.runs ≡ 3
  pub doubles : x.doubles ≤ 65535
  pub age : x.pace.age < 2 ^ 32
