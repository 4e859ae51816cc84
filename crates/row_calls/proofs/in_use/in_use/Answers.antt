use Rattle.std.specs.Prelude.{Ok, Err}
use mathlib.Core.Path.{sym, ap, ◌∙◌}
use Rattle.axis.specs.Row.{axis_of}
use Rattle.row_calls.specs.Calls.{axis_in_use}
use Rattle.row_calls.proofs.StatusLaws.{opened_live, opened_works, either_kind}
use Rattle.row_calls.proofs.in_use.in_use.Goals as goal

pub invariant_of-result : goal.invariant_of-result
invariant_of-result c = opened_works c.args.r c.open-status.result c.open-status.ensures c.in-Sampled.is

pub returns-in-Sampled : goal.returns-in-Sampled
unfolding axis_in_use
returns-in-Sampled c =
    let g = opened_live c.args.r c.open-status.result c.open-status.ensures c.in-Sampled.is in
    ap Ok g.1 ∙ sym (either_kind Err (Ok (axis_of c.args.r)) c.args.r g.0)
