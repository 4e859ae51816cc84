-- What widening is for: the nearest value with the reading as its low bits.
use Rattle.std.specs.Prelude.{◌≡◌, true, false, ◌⊎◌, ℕ, ◌*◌, ◌^◌, ◌<◌, ℤ, nat_abs, ◌-ℤ◌, Result, Ok, Err}
use Rattle.integers.specs.Integer.{mod_z}
use Rattle.position.specs.Position.{in_range}
use Rattle.refusal.specs.declared.Refusal.TheVariants.{Value, Half, Range}
use Rattle.reckon.specs.Widening.{good_reading}
use Rattle.refusal.specs.declared.Refusal.{Refusal}

-- z has r as its low w bits and lies less than half a turn from W, and any other value with these low bits lies strictly farther from W.
pub record Nearest (w : ℕ) (W : ℤ) (r : ℕ) (z : ℤ) : Type 0 where
  pub bits : mod_z z (2 ^ w) ≡ r
  pub less : 2 * nat_abs (z -ℤ W) < 2 ^ w
  pub one : (y : ℤ) → mod_z y (2 ^ w) ≡ r → (y ≡ z) ⊎ (nat_abs (z -ℤ W) < nat_abs (y -ℤ W))

-- When each answer is given: VALUE for arguments outside their limits; else HALF where a value with low bits r lies exactly half a turn
-- from W; else the value that lies less than half a turn from W, where it is in the range, and RANGE where it is not.
pub data Verdict (w : ℕ) (W : ℤ) (r : ℕ) (a : Result ℤ Refusal) : Type 0 where
  value : good_reading w W r ≡ false → a ≡ Err Value → Verdict w W r a
  half : good_reading w W r ≡ true → (p : ℤ) → mod_z p (2 ^ w) ≡ r → 2 * nat_abs (p -ℤ W) ≡ 2 ^ w → a ≡ Err Half → Verdict w W r a
  range : good_reading w W r ≡ true → (p : ℤ) → mod_z p (2 ^ w) ≡ r → 2 * nat_abs (p -ℤ W) < 2 ^ w → in_range p ≡ false → a ≡ Err Range →
      Verdict w W r a
  at : good_reading w W r ≡ true → (p : ℤ) → mod_z p (2 ^ w) ≡ r → 2 * nat_abs (p -ℤ W) < 2 ^ w → in_range p ≡ true → a ≡ Ok p →
      Verdict w W r a
