-- The whole-table save and restore admit one outcome each.
use Rattle.std.specs.Prelude.{Result, ⊤}
use mathlib.Core.Path.{◌≡◌}
use mathlib.Core.List.{List}
use Prim.Native.Nat.{ℕ}
use Rattle.refusal.proofs.OutcomeLaws.{one}
use Rattle.table_record.specs.Saving.{TableSaves}
use Rattle.table_record.specs.Restoring.{TableRestores}
use Rattle.refusal.specs.declared.Refusal.{Refusal}

-- table_record::save::save_table.
pub saves_one : (t b : List ℕ) {d e : List ℕ} {a c : Result ℕ Refusal} → TableSaves t b d a → TableSaves t b e c → (a ≡ c) × (d ≡ e)
saves_one t b p q = (one p.answer q.answer, one p.buffer q.buffer)

-- table_record::restore::restore_table.
pub restores_one : (s t : List ℕ) {u v : List ℕ} {a b : Result ⊤ Refusal} → TableRestores s t u a → TableRestores s t v b → (a ≡ b) × (u ≡ v)
restores_one s t p q = (one p.answer q.answer, one p.table q.table)
