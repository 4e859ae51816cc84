use Rattle.std.specs.Prelude.{Ok}
use mathlib.Core.Path.{ap}
use mathlib.Core.Logic.{inl}
use Rattle.axis_open.proofs.OpenLaws.{opened_sampled}
use Rattle.row_calls.specs.Calls.{axis_sampled}
use Rattle.row_calls.proofs.StatusLaws.{opened_works}
use Rattle.row_calls.proofs.in_use.sampled.Goals as goal

pub invariant_of-result : goal.invariant_of-result
invariant_of-result c = opened_works c.args.r c.open-status.result c.open-status.ensures (inl c.in-Sampled.is)

pub returns-in-Sampled : goal.returns-in-Sampled
unfolding axis_sampled
returns-in-Sampled c = let g = opened_sampled c.args.r c.open-status.result c.open-status.ensures c.in-Sampled.is in rw g.0 (ap Ok g.1)
