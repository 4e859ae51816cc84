use Rattle.std.specs.Prelude.{Err}
use mathlib.Core.Path.{sym, ◌∙◌}
use Rattle.refusal.proofs.PassLaws.{passed_on}
use Rattle.axis.specs.declared.row.Axis.{Axis}
use Rattle.row_calls.proofs.InUseLaws.{sampled_goes, sampled_stops}
use Rattle.row_speed.specs.Speed.{speed_of, speed_row}
use Rattle.row_speed.proofs.speed.Goals as goal

pub returns-in_err-sampled : goal.returns-in_err-sampled
unfolding speed_row
returns-in_err-sampled c =
    passed_on c.from_residual.ensures.1 (sampled_stops Err _ c.args.r (sym c.sampled.ensures ∙ c.in_err-sampled.was))

pub returns : goal.returns
unfolding speed_row
returns c =
    (rw c.branch.view_is at c.by_period.ensures)
    ∙ sampled_goes Err (λ (a : Axis). speed_of c.args.rate a.pace) _ c.args.r (sym c.sampled.ensures ∙ c.in_ok-sampled.was)
