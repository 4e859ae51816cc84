-- What docs/RULES.md states of direction, age and period, "A port sample", Age and period, computed to its end.
use Prim.Native.Nat.{ℕ, ◌-◌, ◌^◌}
use mathlib.Core.Path.{◌≡◌, refl}
use mathlib.Core.List.{List, [], ◌∷◌, map}
use Rattle.axis.specs.declared.row.Pace.{Pace}
use Rattle.axis_decode.specs.declared.Move.{Move}
use Rattle.axis_decode.specs.declared.Move.TheVariants.{Still, Forward, Back, Double}
use Rattle.axis_pace.specs.Pace.{older, paced_direction, paced_age, step_period, paced_period, paced_by}

-- A pace by its three numbers.
abbrev pace : ℕ → ℕ → ℕ → Pace
pace direction age period = record { direction = direction; age = age; period = period }

-- What no step, +, - and E make of a pace.
abbrev after : Pace → List Pace
after p = map (λ (m : Move). paced_by m p) (Still ∷ Forward ∷ Back ∷ Double ∷ [])

-- After five samples forward, back or in no direction the period is 5 on the same side and 0 on the other, + is direction 1, - is 2, and E
-- leaves none of the three.
pub steps_stated :
    after (pace 1 4 9) ≡ pace 1 5 9 ∷ pace 1 0 5 ∷ pace 2 0 0 ∷ pace 0 0 0 ∷ []
    × after (pace 2 4 9) ≡ pace 2 5 9 ∷ pace 1 0 0 ∷ pace 2 0 5 ∷ pace 0 0 0 ∷ []
    × after (pace 0 4 0) ≡ pace 0 5 0 ∷ pace 1 0 0 ∷ pace 2 0 0 ∷ pace 0 0 0 ∷ []
unfolding older paced_direction paced_age step_period paced_period
steps_stated = (refl, refl, refl)

-- Age stops at 2 ^ 32 - 1, and the longest period is 2 ^ 32 - 2.
pub limits_stated :
    after (pace 1 (2 ^ 32 - 3) 9) ≡ pace 1 (2 ^ 32 - 2) 9 ∷ pace 1 0 (2 ^ 32 - 2) ∷ pace 2 0 0 ∷ pace 0 0 0 ∷ []
    × after (pace 1 (2 ^ 32 - 2) 9) ≡ pace 1 (2 ^ 32 - 1) 9 ∷ pace 1 0 0 ∷ pace 2 0 0 ∷ pace 0 0 0 ∷ []
    × after (pace 1 (2 ^ 32 - 1) 9) ≡ pace 1 (2 ^ 32 - 1) 9 ∷ pace 1 0 0 ∷ pace 2 0 0 ∷ pace 0 0 0 ∷ []
unfolding older paced_direction paced_age step_period paced_period
limits_stated = (refl, refl, refl)
