-- One outcome for each export; restore's is in host_change, with those of the other calls that make another row.
use mathlib.Core.Path.{◌≡◌}
use mathlib.Core.List.{List}
use Prim.Native.Nat.{ℕ}
use Rattle.refusal.proofs.OutcomeLaws.{one}
use Rattle.table.specs.Call.{viewed_in, speed_in}
use Rattle.host_answers.specs.declared.answer.Answer.{Answer}
use Rattle.host_answers.specs.Answer.{answer_speed, answer_view}
use Rattle.table.proofs.OutcomeLaws.{reading_one as read_one, save_one as saved-one}
use Rattle.host_table.specs.Call.{ReadsToC, SavesToC}
use Rattle.host_answers.proofs.ShownLaws.{one_shown}
use Rattle.host_answers.specs.declared.speeds.SpeedAnswer.{SpeedAnswer}
use Rattle.host_answers.specs.declared.view.ViewAnswer.{ViewAnswer}

-- ubrenchip_reading
pub reading_one : (x : ℕ) (t : List ℕ) (k : ℕ) {u v : List ℕ} {a b : Answer} →
    ReadsToC x t k u a → ReadsToC x t k v b → (a ≡ b) × (u ≡ v)
reading_one x t k = one_shown (λ d e. read_one x t k)

-- ubrenchip_save
pub save_one : (t : List ℕ) (k : ℕ) (before : List ℕ) {d e : List ℕ} {a b : Answer} →
    SavesToC t k before d a → SavesToC t k before e b → (a ≡ b) × (d ≡ e)
save_one t k before = one_shown (λ d e. saved-one t k before)

-- ubrenchip_view
pub look_one : (t : List ℕ) (k : ℕ) (a b : ViewAnswer) → a ≡ answer_view (viewed_in t k) → b ≡ answer_view (viewed_in t k) → a ≡ b
look_one t k a b p q = one p q

-- ubrenchip_speed_by_period
pub speed_one : (rate : ℕ) (t : List ℕ) (k : ℕ) (a b : SpeedAnswer) → a ≡ answer_speed (speed_in rate t k) →
    b ≡ answer_speed (speed_in rate t k) → a ≡ b
speed_one rate t k a b p q = one p q
