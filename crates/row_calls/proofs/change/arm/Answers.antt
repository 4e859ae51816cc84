use Rattle.std.specs.Prelude.{Ok, Err}
use mathlib.Core.Path.{sym, ap, ◌∙◌}
use Rattle.refusal.proofs.PassLaws.{passed_on}
use Rattle.axis.specs.Row.{row_of}
use Rattle.axis.specs.declared.row.Axis.{Axis}
use Rattle.row_calls.specs.Change.{changed, arm_axis}
use Rattle.row_calls.specs.Calls.{arm_row}
use Rattle.row_calls.proofs.InUseLaws.{sampled_goes, sampled_stops}
use Rattle.row_calls.proofs.change.arm.Goals as goal

pub returns-in_err-armed : goal.returns-in_err-armed
unfolding arm_row
returns-in_err-armed c =
    passed_on c.from_residual.ensures.1 (sampled_stops Err _ c.args.r (sym c.on_sampled.ensures ∙ c.in_err-armed.was))

pub returns : goal.returns
unfolding changed arm_row
returns c =
    ap Ok (rw c.armed.view_is at c.row.ensures)
    ∙ sampled_goes Err (λ (a : Axis). Ok (row_of (arm_axis a))) _ c.args.r (sym c.on_sampled.ensures ∙ c.in_ok-armed.was)
