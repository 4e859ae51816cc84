-- What docs/RULES.md states, computed to its end: "Calls that name one axis", the speeds.
use Rattle.std.specs.Prelude.{Result, Ok, Err}
use mathlib.Core.Path.{◌≡◌, refl}
use mathlib.Core.List.{List, [], ◌∷◌, map}
use Prim.Native.Nat.{ℕ, ◌*◌}
use lib.IntN.{ℤ, pos, negsuc, nat_abs, ◌-ℤ◌, ◌*ℤ◌}
use Rattle.integers.specs.Integer.{floor_z}
use Rattle.refusal.specs.declared.Refusal.TheVariants.{Layout}
use Rattle.speed.specs.declared.Quotient.{Quotient}
use Rattle.speed.specs.Rounding.{rounded, divided}
use Rattle.speed.specs.Speed.{speed_refusal, speed_found, quotient_in, good_count, good_speed, speed_by_count, counted_from, angle_bound}
use Rattle.speed.specs.Sum.{sum_of, numbers_of, remainders_of, carried_over, carried_by, step_of}
use Rattle.refusal.specs.declared.Refusal.{Refusal}

-- Number, remainder and divisor of a quotient.
abbrev pub parts : ℤ → ℤ → ℕ → Quotient
parts number remainder divisor = record { number = number; remainder = remainder; divisor = divisor }

-- Speeds at rate 1: of 1 over 3, 2000, 2001 and 4 samples, of -1 over 2000, 2001 and 3, of 2 over 3, and of 1 over none.
abbrev speeds : List (Result Quotient Refusal)
speeds =
    speed_by_count (pos 1) 3 1
    ∷ speed_by_count (pos 1) 2000 1
    ∷ speed_by_count (pos 1) 2001 1
    ∷ speed_by_count (pos 1) 4 1
    ∷ speed_by_count (negsuc 0) 2000 1
    ∷ speed_by_count (negsuc 0) 2001 1
    ∷ speed_by_count (negsuc 0) 3 1
    ∷ speed_by_count (pos 2) 3 1
    ∷ speed_by_count (pos 1) 0 1
    ∷ []

-- A half goes away from zero both ways, and leaves half the divisor on the other side of zero; VALUE shows 0 in every place.
pub rounded_speeds :
    (map quotient_in speeds
    ≡ parts (pos 333) (pos 1) 3
    ∷ parts (pos 1) (negsuc 999) 2000
    ∷ parts (pos 0) (pos 1000) 2001
    ∷ parts (pos 250) (pos 0) 4
    ∷ parts (negsuc 0) (pos 1000) 2000
    ∷ parts (pos 0) (negsuc 999) 2001
    ∷ parts (negsuc 332) (negsuc 0) 3
    ∷ parts (pos 667) (negsuc 0) 3
    ∷ parts (pos 0) (pos 0) 0
    ∷ [])
    × (map speed_refusal speeds ≡ 0 ∷ 0 ∷ 0 ∷ 0 ∷ 0 ∷ 0 ∷ 0 ∷ 0 ∷ 6 ∷ [])
    × (map speed_found speeds ≡ 0 ∷ 0 ∷ 0 ∷ 0 ∷ 0 ∷ 0 ∷ 0 ∷ 0 ∷ 0 ∷ [])
    × (speed_found (Err (Layout 9)) ≡ 9)
unfolding rounded divided good_count good_speed speed_by_count
rounded_speeds = (refl, refl, refl, refl)

-- How far a speed v lies from that of a shaft that turned from one angle to another, T s times over and doubled.
abbrev apart : ℤ → ℤ → ℤ → ℕ → ℕ → ℕ → ℕ
apart v from to s T F = 2 * nat_abs (((v *ℤ pos T) *ℤ pos s) -ℤ ((to -ℤ from) *ℤ pos (1000 * F)))

-- The second bound is reached: angles 4 and 5 in fifths are the counts 0 and 1, whose speed over 2000 samples at rate 1, or 6000 at rate 3,
-- is 1, and that lies 2000 F (s - 1) + T s from the shaft's own.
pub bound_reached :
    (map (λ (F : ℕ). speed_by_count (counted_from (pos 4) (pos 5) 5) (2000 * F) F) (1 ∷ 3 ∷ [])
    ≡ Ok (parts (pos 1) (negsuc 999) 2000) ∷ Ok (parts (pos 1) (negsuc 2999) 6000) ∷ [])
    × (map (λ (F : ℕ). apart (pos 1) (pos 4) (pos 5) 5 (2000 * F) F) (1 ∷ 3 ∷ []) ≡ 18000 ∷ 54000 ∷ [])
    × (angle_bound 5 2000 1 ∷ angle_bound 5 6000 3 ∷ angle_bound 3 7 5 ∷ [] ≡ 18000 ∷ 54000 ∷ 20021 ∷ [])
unfolding floor_z rounded divided good_count good_speed speed_by_count angle_bound
bound_reached = (refl, refl, refl)

-- One count over three samples at rate 1.
abbrev third : Quotient
third = parts (pos 333) (pos 1) 3

-- Three of them: their numbers come to 999; with a carry 333 is added, then 334, then 333, and nothing is left.
pub thirds_carried :
    (speed_by_count (pos 1) 3 1 ≡ Ok third)
    × (sum_of (numbers_of (third ∷ third ∷ third ∷ [])) ≡ pos 999)
    × (sum_of (remainders_of (third ∷ third ∷ third ∷ [])) ≡ pos 3)
    × (carried_by 3 (third ∷ []) ≡ record { sum = pos 333; carry = pos 1 })
    × (carried_by 3 (third ∷ third ∷ []) ≡ record { sum = pos 667; carry = negsuc 0 })
    × (carried_by 3 (third ∷ third ∷ third ∷ []) ≡ record { sum = pos 1000; carry = pos 0 })
unfolding rounded divided good_count good_speed speed_by_count sum_of carried_over carried_by
thirds_carried = (refl, refl, refl, refl, refl, refl)

-- From half of the divisor on, either way, one is carried over, and below it nothing is.
pub steps_stated : map (step_of 4) (pos 4 ∷ pos 2 ∷ pos 1 ∷ pos 0 ∷ negsuc 0 ∷ negsuc 1 ∷ negsuc 3 ∷ [])
    ≡ pos 1 ∷ pos 1 ∷ pos 0 ∷ pos 0 ∷ pos 0 ∷ negsuc 0 ∷ negsuc 0 ∷ []
unfolding step_of
steps_stated = refl
