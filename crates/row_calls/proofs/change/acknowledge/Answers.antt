use Rattle.std.specs.Prelude.{Ok, Err}
use mathlib.Core.Path.{sym, ap, ◌∙◌}
use Rattle.refusal.proofs.PassLaws.{passed_on}
use Rattle.axis.specs.Row.{row_of}
use Rattle.axis.specs.declared.row.Axis.{Axis}
use Rattle.row_calls.specs.Change.{changed, acknowledge_axis}
use Rattle.row_calls.specs.Calls.{acknowledge_row}
use Rattle.row_calls.proofs.InUseLaws.{sampled_goes, sampled_stops}
use Rattle.row_calls.proofs.change.acknowledge.Goals as goal

pub returns-in_err-seen : goal.returns-in_err-seen
unfolding acknowledge_row
returns-in_err-seen c =
    passed_on c.from_residual.ensures.1 (sampled_stops Err _ c.args.r (sym c.on_sampled.ensures ∙ c.in_err-seen.was))

pub returns : goal.returns
unfolding changed acknowledge_row
returns c =
    ap Ok (rw c.seen.view_is at c.row.ensures)
    ∙ sampled_goes Err (λ (a : Axis). Ok (row_of (acknowledge_axis a))) _ c.args.r (sym c.on_sampled.ensures ∙ c.in_ok-seen.was)
