-- What a port sample answers and promises to C: docs/RULES.md, "A port sample".
use Rattle.std.specs.Prelude.{ℕ, List, Result}
use Rattle.table_port.specs.Port.{Samples, sampled_number, sampled_found, sampled_masks}
use Rattle.host_answers.specs.Shown.{ShownToC}
use Rattle.host_port.specs.declared.SampledAnswer.{SampledAnswer}
use Rattle.refusal.specs.declared.Refusal.{Refusal}
use Rattle.table_port.specs.declared.Masks.{Masks}

-- The number, found number and masks of a port sample's answer.
unfoldable pub answer_sampled : Result Masks Refusal → SampledAnswer
answer_sampled a = record {
  refusal = sampled_number a;
  found = sampled_found a;
  doubles = (sampled_masks a).doubles;
  index = (sampled_masks a).index;
  broken = (sampled_masks a).broken;
}

-- What a port sample promises: t before, u after, and the answer.
abbrev pub SamplesToC : List ℕ → ℕ → List ℕ → SampledAnswer → Type 0
SamplesToC t port u a = ShownToC answer_sampled (Samples t port u) a
