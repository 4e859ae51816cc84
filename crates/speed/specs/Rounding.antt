-- Division to the nearest whole number, and what it leaves: docs/RULES.md, "Calls that name one axis", number, remainder and divisor.
use Rattle.std.specs.Prelude.{◌≡◌, ℕ, suc, ◌+◌, ◌*◌, ◌/◌, ◌≤◌, ◌<◌, ℤ, pos, negsuc, neg_ℤ, nat_abs, ◌+ℤ◌, ◌-ℤ◌, ◌*ℤ◌}
use Rattle.integers.specs.Integer.{minus}
use Rattle.speed.specs.declared.Quotient.{Quotient}

-- t, on the side of zero where n lies.
unfoldable pub away_from : ℤ → ℕ → ℤ
away_from (pos a) t = pos t
away_from (negsuc a) t = neg_ℤ (pos t)

-- n / t to the nearest whole number, halves away from zero.
unfoldable pub rounded : ℤ → ℕ → ℤ
rounded (pos a) t = pos ((2 * a + t) / (2 * t))
rounded (negsuc a) t = neg_ℤ (pos ((2 * suc a + t) / (2 * t)))

-- n over t: the nearest whole number, what it leaves of n, and t.
unfoldable pub divided : ℤ → ℕ → Quotient
divided n t = record { number = rounded n t; remainder = n -ℤ (rounded n t *ℤ pos t); divisor = t }

-- What is asked of q, the quotient of n over t: its divisor is t, number times divisor plus remainder is n, the remainder is at most half
-- the divisor in size, and where it is exactly half, number and remainder lie on opposite sides of zero.
pub record Divides (n : ℤ) (t : ℕ) (q : Quotient) : Type 0 where
  pub over : q.divisor ≡ t
  pub exact : (q.number *ℤ pos t) +ℤ q.remainder ≡ n
  pub small : 2 * nat_abs q.remainder ≤ t
  pub half : 2 * nat_abs q.remainder ≡ t → 0 < minus (q.number *ℤ q.remainder)
