-- Speed by count, and how near it is: docs/RULES.md, "Calls that name one axis", Speed by count.
use Rattle.std.specs.Prelude.{Bool, cond, ◌&&◌, ℕ, ◌+◌, ◌*◌, ◌-◌, ◌^◌, ltb, leb, ℤ, pos, nat_abs, ◌*ℤ◌, ◌-ℤ◌, Result, Ok, Err}
use Rattle.integers.specs.Integer.{floor_z}
use Rattle.refusal.specs.Refusal.{number_of, found_in}
use Rattle.refusal.specs.declared.Refusal.TheVariants.{Value}
use Rattle.speed.specs.Rounding.{divided}
use Rattle.speed.specs.declared.Quotient.{Quotient}
use Rattle.refusal.specs.declared.Refusal.{Refusal}

-- The number of a speed's refusal, 0 where there is none.
abbrev pub speed_refusal : Result Quotient Refusal → ℕ
speed_refusal (Ok q) = 0
speed_refusal (Err e) = number_of e

-- The layout number that the refusal carries, 0 where it carries none.
abbrev pub speed_found : Result Quotient Refusal → ℕ
speed_found (Ok q) = 0
speed_found (Err e) = found_in e

-- The quotient of a refusal: every value is 0.
abbrev pub no_quotient : Quotient
no_quotient = record { number = pos 0; remainder = pos 0; divisor = 0 }

-- Number, remainder and divisor of a speed, all 0 on a refusal.
abbrev pub quotient_in : Result Quotient Refusal → Quotient
quotient_in (Ok q) = q
quotient_in (Err e) = no_quotient

-- A count difference is at most 2 ^ 31 - 1 in size.
unfoldable pub good_count : ℤ → Bool
good_count D = ltb (nat_abs D) (2 ^ 31)

-- It is taken over 1 to 2 ^ 32 - 1 samples.
abbrev pub good_samples : ℕ → Bool
good_samples T = leb 1 T && leb T (2 ^ 32 - 1)

-- A rate is 1 to 1,000,000 samples a second.
abbrev pub good_rate : ℕ → Bool
good_rate F = leb 1 F && leb F 1000000

-- VALUE is for a count difference, a number of samples or a rate outside its limits.
unfoldable pub good_speed : ℤ → ℕ → ℕ → Bool
good_speed D T F = good_count D && good_samples T && good_rate F

-- The speed of the count difference D over T samples at rate F: 1000 D F over T, in thousandths of a count a second.
unfoldable pub speed_by_count : ℤ → ℕ → ℕ → Result Quotient Refusal
speed_by_count D T F = cond (good_speed D T F) (Ok (divided (D *ℤ pos (1000 * F)) T)) (Err Value)

-- The difference of two counts that are floors of shaft angles in s-ths of a count.
abbrev pub counted_from : ℤ → ℤ → ℕ → ℤ
counted_from from to s = floor_z to s -ℤ floor_z from s

-- How far a speed may lie from the shaft's own, s T times over and doubled: the counts' floors, and the rounding.
unfoldable pub angle_bound : ℕ → ℕ → ℕ → ℕ
angle_bound s T F = 2000 * F * (s - 1) + T * s
