-- The laws of a port sample's answer to C: it tells the table's own answers apart, and has one outcome.
use Rattle.std.specs.Prelude.{Result}
use mathlib.Core.Path.{◌≡◌, ap}
use Prim.Native.Nat.{ℕ}
use mathlib.Core.List.{List}
use Rattle.table_port.proofs.AnswerLaws.{sample_told}
use Rattle.table_port.proofs.OutcomeLaws.{sample_one as port-one}
use Rattle.host_answers.proofs.ShownLaws.{one_shown}
use Rattle.host_port.specs.declared.SampledAnswer.{SampledAnswer}
use Rattle.host_port.specs.Port.{answer_sampled, SamplesToC}
use Rattle.refusal.specs.declared.Refusal.{Refusal}
use Rattle.table_port.specs.declared.Masks.{Masks}

-- Two port samples that look the same to C had the same answer.
pub sampled_apart : (a b : Result Masks Refusal) → answer_sampled a ≡ answer_sampled b → a ≡ b
unfolding answer_sampled
sampled_apart a b e =
    sample_told a b (ap (λ (x : SampledAnswer). x.refusal) e) (ap (λ (x : SampledAnswer). x.found) e)
    (λ i. record { doubles = (e i).doubles; index = (e i).index; broken = (e i).broken })

-- ubrenchip_sample
pub sample_one : (t : List ℕ) (port : ℕ) {u v : List ℕ} {a b : SampledAnswer} →
    SamplesToC t port u a → SamplesToC t port v b → (a ≡ b) × (u ≡ v)
sample_one t port = one_shown (λ d e. port-one t port)
