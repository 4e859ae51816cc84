-- A shaft among the events of one axis: docs/RULES.md, "A port sample", Count. Newest first.
use Rattle.std.specs.Prelude.{ℕ, ◌≡◌, List, map}
use Rattle.axis_filter.specs.Lines.{raw_of}
use Rattle.history_axis.specs.Acts.{sampled}
use Rattle.history_axis.specs.Shaft.{ShaftSample, watched}
use Rattle.runs.specs.Event.{Event, bits}

-- Events that show a shaft, with no call between: four bits of a sample each, whose raw levels are the shaft's at a first sample and at
-- later ones.
pub record ShaftShown (h : List Event) (first : ShaftSample) (ts : List ShaftSample) : Type 0 where
  pub nibbles : List ℕ
  pub samples : h ≡ map bits nibbles
  pub levels : map (λ n. sampled (raw_of n)) nibbles ≡ watched first ts
