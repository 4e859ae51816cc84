use mathlib.Core.Path.{◌∙◌}
use Rattle.integers.proofs.Machine.{back}
use Rattle.position.proofs.PositionLaws.{within}
use Rattle.position.proofs.in_range.Goals as goal

pub returns : goal.returns
returns c = rw (back c.ranges.position) at c.contains.ensures.value ∙ within c.args.position
