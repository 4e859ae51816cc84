-- Writing a report has one outcome.
use Prim.Native.Nat.{ℕ}
use mathlib.Core.Path.{◌≡◌}
use mathlib.Core.List.{List}
use Rattle.refusal.proofs.OutcomeLaws.{one}
use Rattle.text.specs.Text.{Writes}
use Rattle.text.specs.declared.report.Report.{Report}

-- Writing a report has one outcome, answer and buffer.
pub write_one : (r : Report) (b : List ℕ) {c d : List ℕ} {m n : ℕ} → Writes r b c m → Writes r b d n → (m ≡ n) × (c ≡ d)
write_one r b w z = (one w.number z.number, one w.buffer z.buffer)
