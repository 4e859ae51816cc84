-- What docs/RULES.md states of codes and entries, "A port sample", Decode and Count, computed to its end.
use mathlib.Core.Path.{◌≡◌, refl}
use mathlib.Core.Bool.{true, false}
use mathlib.Core.List.{[], ◌∷◌, map}
use lib.IntN.{pos, negsuc}
use Rattle.axis_decode.specs.Decode.{code, next_code, worth, is_e, is_p, is_m, mark}
use Rattle.axis_decode.specs.declared.Move.TheVariants.{Still, Forward, Back, Double}

-- A counts 1 in a code and B counts 2; forward is 0, 1, 3, 2, 0.
pub codes_stated :
    code false false ∷ code true false ∷ code false true ∷ code true true ∷ [] ≡ 0 ∷ 1 ∷ 2 ∷ 3 ∷ []
    × map next_code (0 ∷ 1 ∷ 3 ∷ 2 ∷ []) ≡ 1 ∷ 3 ∷ 2 ∷ 0 ∷ []
unfolding next_code
codes_stated = (refl, refl)

-- No step, +, - and E: what each adds to the position, which is a double step, which is +, which is -, and how the code's tables mark it.
pub moves_stated :
    let moves = Still ∷ Forward ∷ Back ∷ Double ∷ [] in
    map worth moves ≡ pos 0 ∷ pos 1 ∷ negsuc 0 ∷ pos 0 ∷ []
    × map is_e moves ≡ false ∷ false ∷ false ∷ true ∷ []
    × map is_p moves ≡ false ∷ true ∷ false ∷ false ∷ []
    × map is_m moves ≡ false ∷ false ∷ true ∷ false ∷ []
    × map mark moves ≡ pos 0 ∷ pos 1 ∷ negsuc 0 ∷ pos 2 ∷ []
unfolding worth is_e is_p is_m mark
moves_stated = (refl, refl, refl, refl, refl)
