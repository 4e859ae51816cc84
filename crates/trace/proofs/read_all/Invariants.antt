use Rattle.std.proofs.Common.{◌-◌}
use Rattle.trace_axis.specs.Trace.{LIMIT}
use Rattle.trace.proofs.InputLaws.{SoFar}
use Rattle.trace.proofs.read_all.Given as goal

abbrev pub invariant-loop-trace : goal.invariant-loop-trace
invariant-loop-trace g l = SoFar (g.R.Read.remaining l.fn.reader) (g.R.Read.remaining l.reader) l.trace

abbrev pub decreases-loop-trace : goal.decreases-loop-trace
decreases-loop-trace g l = LIMIT - l.trace.samples
