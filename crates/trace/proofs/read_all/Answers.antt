use native.Mathlib.Omega.{arith}
use mathlib.Core.List.{[]}
use Rattle.std.proofs.lemmas.Result.{err_from_is_err_and}
use Rattle.std.specs.Prelude.{Ok}
use Rattle.trace.specs.Input.{turn_of, none}
use Rattle.trace.proofs.InputLaws.{taken_none, taken_on, fewer_left, all_failed, all_ended, all_full}
use Rattle.trace.proofs.read_all.Goals as goal

pub loop-trace-init : goal.loop-trace-init
loop-trace-init g c = rw c.start-trace.ensures (record { bytes = []; reads = none; taken = taken_none _ })

pub returns-in_err-read_once : goal.returns-in_err-read_once
returns-in_err-read_once g c =
    let p = err_from_is_err_and c.from_residual.result c.from_residual.ensures.1 in
    let r = c.in_err-read_once.ensures in
    rw (p.1, p.2) (all_failed c.loop-trace.invariant r.read r.taken)

pub returns-then-branch-eq0 : goal.returns-then-branch-eq0
returns-then-branch-eq0 g c =
    let r = c.in_ok-read_once.ensures in
    all_ended c.loop-trace.invariant c.if-branch-eq0.true r.read r.taken r.end

pub loop-trace-smaller : goal.loop-trace-smaller
loop-trace-smaller g c = fewer_left _ _ _ _ c.in_ok-read_once.ensures.read (omega arith)

pub loop-trace-preserved : goal.loop-trace-preserved
loop-trace-preserved g c =
    let r = c.in_ok-read_once.ensures in
    taken_on {t = turn_of c.read_once.new.trace (Ok c.in_ok-read_once.field-0)} c.loop-trace.invariant r.read (omega arith) r.taken

pub returns-after-loop-trace : goal.returns-after-loop-trace
returns-after-loop-trace g c = all_full c.loop-trace.invariant c.loop-trace-test.false
