use mathlib.Core.Path.{sym, ◌∙◌}
use borrow.Author.Tests.{eq-eqb, ne_eqb}
use mir.Syntax.{w64}
use mir.Val.{SFits}
use Rattle.integers.proofs.Machine.{back}
use Rattle.row_speed.specs.Speed.{speed_of}
use borrow.Author.Rules.{rules}
use Rattle.row_speed.proofs.by_period.Goals as goal

pub returns-then-not-is_rate : goal.returns-then-not-is_rate
unfolding speed_of
returns-then-not-is_rate c = rw (sym c.is_rate.ensures ∙ c.if-not-is_rate.true)

pub returns-then-p-eq0 : goal.returns-then-p-eq0
unfolding speed_of
returns-then-p-eq0 c = rw ((sym c.is_rate.ensures ∙ c.if-not-is_rate.false), eq-eqb c.args.p.period 0 c.if-p-eq0.true)

pub returns : goal.returns
unfolding speed_of
returns c =
    let f : SFits w64 c.sign.result = search rules in
    rw ((sym c.is_rate.ensures ∙ c.if-not-is_rate.false), ne_eqb c.args.p.period 0 c.if-p-eq0.false)
    (c.by_count.ensures ∙ rw (back f, c.sign.ensures, c.larger.ensures))
