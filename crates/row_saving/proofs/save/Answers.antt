use Rattle.std.specs.Prelude.{Err}
use mathlib.Core.Path.{sym, ap, ◌∙◌}
use lib.ListN.{length}
use Rattle.refusal.proofs.PassLaws.{passed_on}
use Rattle.axis.specs.declared.row.Axis.{Axis}
use Rattle.record.specs.Record.{saved_as, written}
use Rattle.row_calls.proofs.InUseLaws.{in_use_goes, in_use_stops}
use Rattle.row_saving.specs.Saving.{saved_of, save_row, saved_in}
use Rattle.row_saving.proofs.save.Goals as goal

pub returns-in_err-x : goal.returns-in_err-x
unfolding save_row saved_in
returns-in_err-x c =
    let h = sym c.in_use.ensures ∙ c.in_err-x.was in (
      passed_on c.from_residual.ensures.1 (in_use_stops Err _ _ c.args.r h),
      in_use_stops (λ _. c.args.buf.now) _ _ c.args.r h,
    )

pub returns : goal.returns
unfolding save_row saved_in
returns c =
    let b = c.args.buf.now in
    let h = sym c.in_use.ensures ∙ c.in_ok-x.was in
    let k = c.kept.ensures ∙ ap saved_of c.x.view_is in (
      c.save.ensures.0 ∙ ap (saved_as (length b)) k ∙ in_use_goes Err (λ (a : Axis). saved_as (length b) (saved_of a)) c.args.r h,
      c.save.ensures.1 ∙ ap (written b) k ∙ in_use_goes (λ _. b) (λ (a : Axis). written b (saved_of a)) c.args.r h,
    )
