-- Whole numbers below zero too: the two sides of a number, its remainder and its floor.
use Rattle.std.specs.Prelude.{ℕ, suc, ◌-◌, ◌/◌, ◌%◌, ℤ, pos, negsuc}

-- How far a number lies above 0.
abbrev pub plus : ℤ → ℕ
plus (pos n) = n
plus (negsuc n) = 0

-- How far a number lies below 0.
abbrev pub minus : ℤ → ℕ
minus (pos n) = 0
minus (negsuc n) = suc n

-- z reduced modulo m, to 0 .. m - 1.
unfoldable pub mod_z : ℤ → ℕ → ℕ
mod_z (pos a) m = a % m
mod_z (negsuc a) m = m - suc (a % m)

-- The whole number at or below z / s.
unfoldable pub floor_z : ℤ → ℕ → ℤ
floor_z (pos a) s = pos (a / s)
floor_z (negsuc a) s = negsuc (a / s)
