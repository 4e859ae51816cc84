-- What a port sample's answer shows to C, field by field, computed to its end: docs/RULES.md, "A port sample".
use Rattle.std.specs.Prelude.{Ok, Err}
use Prim.Native.Nat.{ℕ}
use mathlib.Core.Path.{◌≡◌, refl}
use Rattle.refusal.specs.declared.Refusal.TheVariants.{Length, Layout}
use Rattle.host_port.specs.declared.SampledAnswer.{SampledAnswer}
use Rattle.host_port.specs.Port.{answer_sampled}

-- What a sample shows to C: refusal, found, and the masks of doubles, reference edges and broken rows.
abbrev shown : ℕ → ℕ → ℕ → ℕ → ℕ → SampledAnswer
shown refusal found doubles index broken = record {
  refusal = refusal;
  found = found;
  doubles = doubles;
  index = index;
  broken = broken;
}

-- Each mask is shown in its own place; a refusal shows its number, and LAYOUT the number found, and no mask.
pub sample_stated :
    (answer_sampled (Ok (record { doubles = 1; index = 2; broken = 32768 })) ≡ shown 0 0 1 2 32768)
    × (answer_sampled (Err Length) ≡ shown 1 0 0 0 0)
    × (answer_sampled (Err (Layout 7)) ≡ shown 11 7 0 0 0)
unfolding answer_sampled
sample_stated = (refl, refl, refl)
