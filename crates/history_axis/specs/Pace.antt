-- Direction, age and period after some entries, newest first, that started from the pace p: docs/RULES.md, "A port sample", Age and period.
use Rattle.std.specs.Prelude.{ℕ, ◌+◌, ◌-◌, ◌^◌, min, cond, ◌&&◌, List, [], ◌∷◌, eqb, ltb}
use Rattle.axis.specs.declared.row.Pace.{Pace}
use Rattle.axis_decode.specs.declared.Move.{Move}
use Rattle.axis_decode.specs.declared.Move.TheVariants.{Still, Forward, Back, Double}

-- Direction: 1, 2 or 0 as the latest entry off zero is +, - or E; the starting one if there was none.
unfoldable pub direction_of : Pace → List Move → ℕ
direction_of p [] = p.direction
direction_of p (Still ∷ ms) = direction_of p ms
direction_of p (Forward ∷ ms) = 1
direction_of p (Back ∷ ms) = 2
direction_of p (Double ∷ ms) = 0

-- The gap: the samples since the latest entry off zero, counted on from the starting age if there was none.
unfoldable pub gap_of : Pace → List Move → ℕ
gap_of p [] = p.age
gap_of p (Still ∷ ms) = gap_of p ms + 1
gap_of p (Forward ∷ ms) = 0
gap_of p (Back ∷ ms) = 0
gap_of p (Double ∷ ms) = 0

-- Age: the gap, at most 2 ^ 32 - 1.
unfoldable pub age_of : Pace → List Move → ℕ
age_of p ms = min (2 ^ 32 - 1) (gap_of p ms)

-- The period of a step in direction d after the entries ms: the samples since the entry off zero
-- before it, if they are below 2 ^ 32 - 1 and that entry's direction was d.
unfoldable pub step_span : ℕ → Pace → List Move → ℕ
step_span d p ms = cond (ltb (gap_of p ms + 1) (2 ^ 32 - 1) && eqb (direction_of p ms) d) (gap_of p ms + 1) 0

-- Period: that of the latest entry off zero, 0 for E; the starting one if there was none.
unfoldable pub period_of : Pace → List Move → ℕ
period_of p [] = p.period
period_of p (Still ∷ ms) = period_of p ms
period_of p (Forward ∷ ms) = step_span 1 p ms
period_of p (Back ∷ ms) = step_span 2 p ms
period_of p (Double ∷ ms) = 0

-- All three.
abbrev pub pace_of : Pace → List Move → Pace
pace_of p ms = record { direction = direction_of p ms; age = age_of p ms; period = period_of p ms }
