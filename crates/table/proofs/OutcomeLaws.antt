-- A view, a reading, a speed by period and a save each have one outcome: docs/RULES.md, "Programs that would slip past a lazy claim".
use Rattle.std.specs.Prelude.{Result, ℤ}
use Prim.Native.Nat.{ℕ}
use mathlib.Core.Path.{◌≡◌}
use mathlib.Core.List.{List}
use Rattle.refusal.proofs.OutcomeLaws.{one}
use Rattle.table.specs.Call.{viewed_in, ReadingMakes, speed_in, SaveMakes}
use Rattle.refusal.specs.declared.Refusal.{Refusal}
use Rattle.speed.specs.declared.Quotient.{Quotient}
use Rattle.row_view.specs.declared.answer.View.{View}

-- A reading has one outcome.
pub reading_one : (x : ℕ) (t : List ℕ) (k : ℕ) {u v : List ℕ} {a b : Result ℤ Refusal} →
    ReadingMakes x t k u a → ReadingMakes x t k v b → (a ≡ b) × (u ≡ v)
reading_one x t k w z = (one w.answer z.answer, one w.table z.table)

-- A save has one outcome, with the buffer in the table's place, which it only reads.
pub save_one : (t : List ℕ) (k : ℕ) (b : List ℕ) {c d : List ℕ} {a e : Result ℕ Refusal} →
    SaveMakes t k b c a → SaveMakes t k b d e → (a ≡ e) × (c ≡ d)
save_one t k b w z = (one w.answer z.answer, one w.buffer z.buffer)

-- A view, which only reads, has one answer.
pub view_one : (t : List ℕ) (k : ℕ) {a b : Result View Refusal} → a ≡ viewed_in t k → b ≡ viewed_in t k → a ≡ b
view_one t k p q = one p q

-- So has speed by period.
pub speed_one : (rate : ℕ) (t : List ℕ) (k : ℕ) {a b : Result Quotient Refusal} → a ≡ speed_in rate t k → b ≡ speed_in rate t k → a ≡ b
speed_one rate t k p q = one p q
