-- What docs/RULES.md states of broken rows, "One row, four words", computed to its end.
use mathlib.Core.Path.{◌≡◌, refl}
use mathlib.Core.Bool.{true, false}
use mathlib.Core.List.{[], ◌∷◌, map}
use Rattle.axis_sound.specs.declared.Status.TheVariants.{Empty, Sampled, Counter, Broken}
use Rattle.axis_open.specs.Open.{broken_by}

-- An empty, a sampled and a counter row are sound, and anything else is broken.
pub broken_stated : map broken_by (Empty ∷ Sampled ∷ Counter ∷ Broken ∷ []) ≡ false ∷ false ∷ false ∷ true ∷ []
broken_stated = refl
