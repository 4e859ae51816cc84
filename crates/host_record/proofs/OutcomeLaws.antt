-- Each export admits one outcome.
use mathlib.Core.Path.{◌≡◌}
use mathlib.Core.List.{List}
use Prim.Native.Nat.{ℕ}
use Rattle.refusal.proofs.OutcomeLaws.{one}
use Rattle.record_table.specs.TableRecord.{tested_either}
use Rattle.table_record.proofs.OutcomeLaws.{saves_one, restores_one}
use Rattle.host_answers.specs.Answer.{answer_test}
use Rattle.host_answers.specs.declared.answer.Answer.{Answer}
use Rattle.host_answers.proofs.ShownLaws.{one_shown}
use Rattle.host_record.specs.Whole.{TableSavesToC, TableRestoresToC}

-- ubrenchip_save_table
pub save_table_one : (t before : List ℕ) {d e : List ℕ} {a b : Answer} → TableSavesToC t before d a → TableSavesToC t before e b →
    (a ≡ b) × (d ≡ e)
save_table_one t before = one_shown (λ d e. saves_one t before)

-- ubrenchip_restore_table
pub restore_table_one : (s t : List ℕ) {u v : List ℕ} {a b : Answer} → TableRestoresToC s t u a → TableRestoresToC s t v b →
    (a ≡ b) × (u ≡ v)
restore_table_one s t = one_shown (λ d e. restores_one s t)

-- ubrenchip_test_any
pub test_any_one : (slice : List ℕ) (r s : Answer) → r ≡ answer_test (tested_either slice) → s ≡ answer_test (tested_either slice) → r ≡ s
test_any_one slice r s = one
