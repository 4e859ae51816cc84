use Rattle.std.specs.Prelude.{Ok}
use mathlib.Core.Path.{ap}
use mathlib.Core.Logic.{inr}
use Rattle.axis_open.proofs.OpenLaws.{opened_counter}
use Rattle.row_calls.specs.Calls.{axis_counting}
use Rattle.row_calls.proofs.StatusLaws.{opened_works}
use Rattle.row_calls.proofs.in_use.counting.Goals as goal

pub invariant_of-result : goal.invariant_of-result
invariant_of-result c = opened_works c.args.r c.open-status.result c.open-status.ensures (inr c.in-Counter.is)

pub returns-in-Counter : goal.returns-in-Counter
unfolding axis_counting
returns-in-Counter c = let g = opened_counter c.args.r c.open-status.result c.open-status.ensures c.in-Counter.is in rw g.0 (ap Ok g.1)
