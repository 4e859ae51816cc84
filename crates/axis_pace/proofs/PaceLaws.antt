-- The laws of direction, age and period: docs/RULES.md, "A port sample", Age and period.
use Prim.Native.Nat.{ℕ, ◌+◌, ◌-◌, ◌^◌, ◌<◌, ◌≤◌, min}
use mathlib.Core.Path.{◌≡◌, refl}
use mathlib.Core.Bool.{Bool, true, false, cond, ◌&&◌, and-false}
use native.Mathlib.Omega.{arith}
use borrow.Author.Tests.{ltb-true, lt-ltb, eq-eqb, ne_eqb}
use lib.Dec.{ltb, lit<, lit≤}
use Rattle.integers.proofs.Balance.{Decided, yes, no, test}
use Rattle.axis_pace.specs.Pace.{older, paced_direction, paced_age, step_period, paced_period}
use Rattle.axis_decode.specs.declared.Move.{Move}
use Rattle.axis_decode.specs.declared.Move.TheVariants.{Still, Forward, Back, Double}

-- ---- what a row can hold: direction, age, period, and no period where there is no direction

pub direction_below : (m : Move) (d : ℕ) → d < 3 → paced_direction m d < 3
unfolding paced_direction
direction_below Still d h = h
direction_below Forward d h = lit< tt
direction_below Back d h = lit< tt
direction_below Double d h = lit< tt

pub age_below : (m : Move) (age : ℕ) → paced_age m age < 2 ^ 32
unfolding paced_age older
age_below Still age = omega arith
age_below Forward age = lit< tt
age_below Back age = lit< tt
age_below Double age = lit< tt

step_below : (side direction age : ℕ) → step_period side direction age ≤ 2 ^ 32 - 2
unfolding step_period
step_below side direction age = go (test (ltb (older age) (2 ^ 32 - 1))) _
  where
    go : Decided (ltb (older age) (2 ^ 32 - 1)) → (b : Bool) → cond (ltb (older age) (2 ^ 32 - 1) && b) (older age) 0 ≤ 2 ^ 32 - 2
    go (yes e) true = rw e (omega (arith, ltb-true))
    go (yes e) false = rw e (omega arith)
    go (no e) b = rw e (omega arith)

pub period_below : (m : Move) (direction age period : ℕ) → period ≤ 2 ^ 32 - 2 → paced_period m direction age period ≤ 2 ^ 32 - 2
unfolding paced_period
period_below Still direction age period h = h
period_below Forward direction age period h = step_below 1 direction age
period_below Back direction age period h = step_below 2 direction age
period_below Double direction age period h = lit≤ tt

pub resting : (m : Move) (direction age period : ℕ) → (direction ≡ 0 → period ≡ 0) → paced_direction m direction ≡ 0 →
    paced_period m direction age period ≡ 0
unfolding paced_direction paced_period
resting Still direction age period h e = h e
resting Forward direction age period h e = absurd (omega arith)
resting Back direction age period h e = absurd (omega arith)
resting Double direction age period h e = refl

-- ---- the period

-- A sample after which the direction is another one has no period.
pub turned : (m : Move) (direction age period : ℕ) → (direction ≡ paced_direction m direction → ⊥) → paced_period m direction age period ≡ 0
unfolding paced_direction paced_period step_period
turned Still direction age period h = absurd (h refl)
turned Forward direction age period h = rw (ne_eqb direction 1 h, and-false)
turned Back direction age period h = rw (ne_eqb direction 2 h, and-false)
turned Double direction age period h = refl

-- A step in the direction of the one before, fewer than 2 ^ 32 - 1 samples after it, has that number as its period.
pub steady : (side age : ℕ) → age + 1 < 2 ^ 32 - 1 → step_period side side age ≡ age + 1
unfolding step_period older
steady side age h =
    let e : min (age + 1) (2 ^ 32 - 1) ≡ age + 1 = omega arith in
    rw (e, lt-ltb (age + 1) (2 ^ 32 - 1) h, eq-eqb side side refl)
