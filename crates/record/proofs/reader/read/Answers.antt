use Rattle.std.specs.Prelude.{Err}
use mathlib.Core.Path.{sym, ap, ◌∙◌}
use Rattle.std.proofs.lemmas.Result.{err_from_is_err_and}
use Rattle.record.specs.Record.{read_as}
use Rattle.record.proofs.reader.read.Goals as goal

pub returns-then-not-opens : goal.returns-then-not-opens
unfolding read_as
returns-then-not-opens c = rw (sym c.opens.ensures ∙ c.if-not-opens.true) (ap Err c.layout_refusal.ensures)

pub returns : goal.returns
unfolding read_as
returns c = rw (sym c.opens.ensures ∙ c.if-not-opens.false, sym c.read_axis.ensures ∙ c.in_ok-config.was) c.ended.ensures

pub returns-in_err-config : goal.returns-in_err-config
unfolding read_as
returns-in_err-config c =
    let p = err_from_is_err_and c.from_residual.result c.from_residual.ensures.1 in
    rw (p.1, p.2, sym c.opens.ensures ∙ c.if-not-opens.false, sym c.read_axis.ensures ∙ c.in_err-config.was)
