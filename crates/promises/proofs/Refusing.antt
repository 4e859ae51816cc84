-- Demand 1 for tables: when a port sample and a call are refused, by what they promise.
use Rattle.std.specs.Prelude.{Result, Err}
use Prim.Native.Nat.{ℕ, ◌*◌, ◌≤◌}
use mathlib.Core.Path.{◌≡◌}
use mathlib.Core.Logic.{◌↔◌, ◌≢◌}
use mathlib.Core.List.{List}
use lib.ListN.{length}
use Rattle.refusal.specs.declared.Refusal.{Refusal}
use Rattle.refusal.specs.declared.Refusal.TheVariants.{Length}
use Rattle.axis.specs.Limit.{most_axes}
use Rattle.table_rows.proofs.RowsLaws.{length_wrong}
use Rattle.table_port.specs.Port.{Samples}
use Rattle.table_port.proofs.PortLaws.{sample_refused, refused_keeps}
use Rattle.runs.specs.Told.{Told, refused}
use Rattle.runs.specs.Op.{Op}
use Rattle.runs.specs.Run.{table_next, Says}
use Rattle.runs.specs.Refusing.{RefusesExactly}
use Rattle.runs.proofs.RefusingLaws.{refuses_exactly, refused_table}
use Rattle.table_port.specs.declared.Masks.{Masks}

-- A port sample.
pub sample_says : (t u : List ℕ) (word : ℕ) (a : Result Masks Refusal) → Samples t word u a → (e : Refusal) →
    ((a ≡ Err e) ↔ (((n : ℕ) → 1 ≤ n → n ≤ most_axes → length t ≢ n * 4) × (e ≡ Length))) × (a ≡ Err e → u ≡ t)
sample_says t u word a w e =
    let none = length_wrong (length t) in
    let says = sample_refused t word e in
    rw (w.answer, w.table)
    ((λ q. (none.0 (says.0 q).0, (says.0 q).1), λ h. says.1 (none.1 h.0, h.1)), refused_keeps t word e)

-- A call that names an axis.
pub call_says : (o : Op) (t u : List ℕ) (k : ℕ) (a : Told) → Says o t k u a →
    RefusesExactly o t k a × ((e : Refusal) → a ≡ refused e → u ≡ t)
unfolding table_next
call_says o t u k a s = rw (s.told, s.table) (refuses_exactly o t k, refused_table t k o)
