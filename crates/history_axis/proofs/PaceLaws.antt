-- The laws of direction, age and period with one entry more.
use mathlib.Core.Path.{◌≡◌, refl}
use mathlib.Core.Bool.{Bool, true, false, cond, ◌&&◌}
use mathlib.Core.List.{List, ◌∷◌}
use Prim.Native.Nat.{ℕ, ◌+◌, ◌-◌, ◌^◌, min}
use native.Mathlib.Omega.{arith}
use borrow.Author.Tests.{le-ltb, ltb-true, ltb-false}
use lib.Dec.{eqb, ltb}
use Rattle.axis.specs.declared.row.Pace.{Pace}
use Rattle.axis_pace.specs.Pace.{older, paced_direction, paced_age, step_period, paced_period, paced_by}
use Rattle.axis_decode.specs.declared.Move.{Move}
use Rattle.axis_decode.specs.declared.Move.TheVariants.{Still, Forward, Back, Double}
use Rattle.history_axis.specs.Pace.{direction_of, gap_of, age_of, step_span, period_of, pace_of}

module _ (p : Pace) (ms : List Move) where
  direction_next : (m : Move) → paced_direction m (direction_of p ms) ≡ direction_of p (m ∷ ms)
  unfolding paced_direction direction_of
  direction_next Still = refl
  direction_next Forward = refl
  direction_next Back = refl
  direction_next Double = refl

  age_next : (m : Move) → paced_age m (age_of p ms) ≡ age_of p (m ∷ ms)
  unfolding paced_age older age_of gap_of
  age_next Still = omega arith
  age_next Forward = refl
  age_next Back = refl
  age_next Double = refl

  -- The period of a step, in either direction.
  step_next : (d : ℕ) → step_period d (direction_of p ms) (age_of p ms) ≡ step_span d p ms
  unfolding step_period step_span older age_of
  step_next d = go (ltb (gap_of p ms + 1) (2 ^ 32 - 1)) refl
    where
      go : (b : Bool) → ltb (gap_of p ms + 1) (2 ^ 32 - 1) ≡ b →
          step_period d (direction_of p ms) (age_of p ms) ≡ cond (b && eqb (direction_of p ms) d) (gap_of p ms + 1) 0
      go true q =
          let same : min (min (2 ^ 32 - 1) (gap_of p ms) + 1) (2 ^ 32 - 1) ≡ gap_of p ms + 1 = omega (arith, ltb-true) in
          rw (same, q)
      go false q = rw (le-ltb (older (age_of p ms)) (2 ^ 32 - 1) (omega (arith, ltb-false)))

  period_next : (m : Move) → paced_period m (direction_of p ms) (age_of p ms) (period_of p ms) ≡ period_of p (m ∷ ms)
  unfolding paced_period period_of
  period_next Still = refl
  period_next Forward = step_next 1
  period_next Back = step_next 2
  period_next Double = refl

  pub pace_next : (m : Move) → paced_by m (pace_of p ms) ≡ pace_of p (m ∷ ms)
  pace_next m = λ i. record { direction = direction_next m i; age = age_next m i; period = period_next m i }
