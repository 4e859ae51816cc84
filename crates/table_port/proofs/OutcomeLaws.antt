-- A port sample's claim admits one outcome: docs/RULES.md, "Programs that would slip past a lazy claim".
use Rattle.std.specs.Prelude.{Result}
use Prim.Native.Nat.{ℕ}
use mathlib.Core.Path.{◌≡◌}
use mathlib.Core.List.{List}
use Rattle.refusal.proofs.OutcomeLaws.{one}
use Rattle.table_port.specs.Port.{Samples}
use Rattle.refusal.specs.declared.Refusal.{Refusal}
use Rattle.table_port.specs.declared.Masks.{Masks}

-- A port sample has one outcome.
pub sample_one : (t : List ℕ) (port : ℕ) {u v : List ℕ} {a b : Result Masks Refusal} → Samples t port u a → Samples t port v b → (a ≡ b) × (u ≡ v)
sample_one t port w z = (one w.answer z.answer, one w.table z.table)
