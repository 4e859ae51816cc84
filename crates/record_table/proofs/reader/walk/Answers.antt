use mathlib.Core.Path.{◌≡◌, sym, ◌∙◌}
use Prim.Native.Nat.{suc, ◌+◌, ◌-◌}
use native.Mathlib.Omega.{arith}
use Rattle.std.proofs.lemmas.Result.{err_from_is_err_and}
use Rattle.record_table.proofs.SurveyLaws.{survey_next, survey_stops, survey_closed, survey_open}
use Rattle.record_table.proofs.reader.walk.Goals as goal

pub returns-in_err-entry : goal.returns-in_err-entry
returns-in_err-entry c =
    let e : c.args.count - c.loop.counter ≡ suc (c.args.count - (c.loop.counter + 1)) = omega arith in
    let k = rw e at c.loop.invariant in
    let p = err_from_is_err_and c.from_residual.result c.from_residual.ensures.1 in
    rw (p.1, p.2) (sym (k ∙ survey_stops _ _ _ _ _ _ (sym c.read_entry.ensures ∙ c.in_err-entry.was)))

pub loop-preserved : goal.loop-preserved
loop-preserved c =
    let e : c.args.count - c.loop.counter ≡ suc (c.args.count - (c.loop.counter + 1)) = omega arith in
    let k = rw e at c.loop.invariant in
    rw c.from-least.ensures (k ∙ survey_next _ _ _ _ _ _ _ (sym c.read_entry.ensures ∙ c.in_ok-entry.was))

pub returns-then-not-closes : goal.returns-then-not-closes
returns-then-not-closes c =
    let e : c.args.count - c.loop.counter ≡ 0 = omega arith in
    let k = rw e at c.loop.invariant in
    sym (k ∙ survey_open _ _ _ _ (sym c.closes.ensures ∙ c.if-not-closes.true))

pub returns : goal.returns
returns c =
    let e : c.args.count - c.loop.counter ≡ 0 = omega arith in
    let d : c.loop.counter ≡ c.args.count = omega arith in
    let k = rw e at c.loop.invariant in
    sym (k ∙ survey_closed _ _ _ _ (sym c.closes.ensures ∙ c.if-not-closes.false) ∙ rw d)
