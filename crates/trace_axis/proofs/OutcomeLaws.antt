-- Each public call of a trace admits one outcome: docs/RULES.md, "Programs that would slip past a lazy claim".
use Prim.Native.Nat.{ℕ}
use mathlib.Core.Path.{◌≡◌}
use mathlib.Core.List.{List}
use Rattle.refusal.proofs.OutcomeLaws.{one}
use Rattle.trace_axis.specs.Trace.{started, fed_with, report_of}
use Rattle.trace_axis.specs.declared.trace.Trace.{Trace}
use Rattle.text.specs.declared.report.Report.{Report}

-- A start has one outcome.
pub start_one : {a b : Trace} → a ≡ started → b ≡ started → a ≡ b
start_one p q = one p q

-- So has feeding bytes.
pub fed_one : (x : Trace) (bs : List ℕ) {a b : Trace} → a ≡ fed_with x bs → b ≡ fed_with x bs → a ≡ b
fed_one x bs p q = one p q

-- So has a report.
pub report_one : (x : Trace) {a b : Report} → a ≡ report_of x → b ≡ report_of x → a ≡ b
report_one x p q = one p q
