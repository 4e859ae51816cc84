-- The claim of a call that makes another row admits one outcome: docs/RULES.md, "Programs that would slip past a lazy claim".
use Rattle.std.specs.Prelude.{Result, ⊤}
use Prim.Native.Nat.{ℕ}
use mathlib.Core.Path.{◌≡◌}
use mathlib.Core.List.{List}
use Rattle.refusal.proofs.OutcomeLaws.{one}
use Rattle.axis.specs.declared.row.Row.{Row}
use Rattle.table_change.specs.Making.{Makes}
use Rattle.refusal.specs.declared.Refusal.{Refusal}

-- Setup, erase, preset, arm, acknowledge and restore, each by its rule, have one outcome.
pub makes_one : (rule : Row → Result Row Refusal) (t : List ℕ) (k : ℕ) {u v : List ℕ} {a b : Result ⊤ Refusal} →
    Makes rule t k u a → Makes rule t k v b → (a ≡ b) × (u ≡ v)
makes_one rule t k w z = (one w.answer z.answer, one w.table z.table)
