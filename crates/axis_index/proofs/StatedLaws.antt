-- What docs/RULES.md states of the index line, "A port sample", Index, computed to its end.
use mathlib.Core.Path.{◌≡◌, refl}
use mathlib.Core.Bool.{Bool, true, false}
use mathlib.Core.List.{List, [], ◌∷◌, map}
use Rattle.axis_decode.specs.declared.Move.TheVariants.{Still, Forward, Back, Double}
use Rattle.std.specs.Prelude.{Option, None, Some}
use Rattle.axis_index.specs.Index.{edge_by, is_forward, is_backward, met}
use Rattle.axis_index.specs.declared.Way.{Way}
use Rattle.axis_index.specs.declared.Way.TheVariants.{Forward as MetForward, Backward as MetBackward}

-- The edges where Z stays 0, rises, falls and stays 1.
abbrev all : (Bool → Bool → Option Way) → List (Option Way)
all f = f false false ∷ f false true ∷ f true false ∷ f true true ∷ []

-- A rise is met forward where x4's entry is +, and a fall backward where it is -; no other sample is a reference edge.
pub edges_stated :
    all (edge_by Still) ≡ None ∷ None ∷ None ∷ None ∷ []
    × all (edge_by Forward) ≡ None ∷ Some MetForward ∷ None ∷ None ∷ []
    × all (edge_by Back) ≡ None ∷ None ∷ Some MetBackward ∷ None ∷ []
    × all (edge_by Double) ≡ None ∷ None ∷ None ∷ None ∷ []
    × map met (None ∷ Some MetForward ∷ Some MetBackward ∷ []) ≡ false ∷ true ∷ true ∷ []
    × map is_forward (None ∷ Some MetForward ∷ Some MetBackward ∷ []) ≡ false ∷ true ∷ false ∷ []
    × map is_backward (None ∷ Some MetForward ∷ Some MetBackward ∷ []) ≡ false ∷ false ∷ true ∷ []
unfolding edge_by
edges_stated = (refl, refl, refl, refl, refl, refl, refl)
