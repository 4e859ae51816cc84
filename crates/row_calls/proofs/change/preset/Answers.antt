use Rattle.std.specs.Prelude.{Ok, Err}
use mathlib.Core.Path.{sym, ap, ◌∙◌}
use Rattle.integers.proofs.Machine.{back}
use Rattle.refusal.proofs.PassLaws.{passed_on}
use Rattle.row_calls.specs.Change.{changed}
use Rattle.row_calls.specs.Calls.{place_axis, place_row, preset_row}
use Rattle.row_calls.proofs.InUseLaws.{in_use_goes, in_use_stops}
use Rattle.row_calls.proofs.change.preset.Goals as goal

pub returns-in_err-x : goal.returns-in_err-x
unfolding preset_row
returns-in_err-x c =
    passed_on c.from_residual.ensures.1 (in_use_stops Err _ _ c.args.r (sym c.in_use.ensures ∙ c.in_err-x.was))

pub returns-then-not-in_range : goal.returns-then-not-in_range
unfolding preset_row place_row
returns-then-not-in_range c =
    let out = sym (rw (back c.ranges.position) at c.in_range.ensures) ∙ c.if-not-in_range.true in
    rw (← in_use_goes Err (place_axis c.args.position) c.args.r (sym c.in_use.ensures ∙ c.in_ok-x.was), out)

pub returns : goal.returns
unfolding changed preset_row place_row
returns c =
    let within = sym (rw (back c.ranges.position) at c.in_range.ensures) ∙ c.if-not-in_range.false in
    rw (← in_use_goes Err (place_axis c.args.position) c.args.r (sym c.in_use.ensures ∙ c.in_ok-x.was), within)
    (ap Ok (rw (c.moved.view_is ∙ (rw (back c.ranges.position) at c.moved-moved.ensures)) at c.row.ensures))
