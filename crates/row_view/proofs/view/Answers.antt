use Rattle.std.specs.Prelude.{Ok, Err}
use mathlib.Core.Path.{sym, ap, ◌∙◌}
use Rattle.refusal.proofs.PassLaws.{passed_on}
use Rattle.axis.specs.declared.row.Axis.{Axis}
use Rattle.row_calls.proofs.InUseLaws.{in_use_goes, in_use_stops}
use Rattle.row_view.specs.View.{view_of, view_row}
use Rattle.row_view.proofs.view.Goals as goal

pub returns-in_err-in_use : goal.returns-in_err-in_use
unfolding view_row
returns-in_err-in_use c =
    passed_on c.from_residual.ensures.1 (in_use_stops Err _ _ c.args.r (sym c.in_use.ensures ∙ c.in_err-in_use.was))

pub returns : goal.returns
unfolding view_row
returns c =
    ap Ok c.view_of.ensures ∙ in_use_goes Err (λ (a : Axis). Ok (view_of a)) c.args.r (sym c.in_use.ensures ∙ c.in_ok-in_use.was)
