use Rattle.std.specs.Prelude.{Ok}
use mathlib.Core.Path.{◌≡◌, ap}
use mathlib.Core.Bool.{Bool, ◌&&◌}
use Prim.Native.Nat.{ℕ, ◌*◌, ◌^◌, ◌<◌}
use native.Mathlib.Omega.{arith}
use lib.IntN.{ℤ, pos, nat_abs, ◌*ℤ◌}
use mir.Syntax.{w64}
use mir.Val.{to_z, SFits}
use mir.Facts.{to_z_pos}
use Rattle.integers.proofs.Balance.{abs_is}
use Rattle.integers.proofs.Machine.{back, fits_size}
use Rattle.speed.specs.Speed.{good_count, good_samples, good_rate, good_speed, speed_by_count}
use Rattle.speed.proofs.SpeedLaws.{Limits, limits, product_small}
use Rattle.speed.proofs.by_count.Goals as goal

-- the three tests are the one of the definition
tested : (D : ℤ) (T F : ℕ) {x y z k : Bool} → x ≡ good_count D → y ≡ good_samples T → z ≡ good_rate F →
    (x && y && z) ≡ k → good_speed D T F ≡ k
unfolding good_speed
tested D T F p q r h = rw (← p, ← q, ← r) h

module _ {D : ℤ} {T F : ℕ} (known : Limits D T F) where
  read_f : to_z w64 (1000 * F) ≡ pos (1000 * F)
  read_f = to_z_pos w64 (omega (arith, known.rate))

  small : nat_abs (D *ℤ pos (1000 * F)) < 2 ^ 61
  small = product_small _ _ _ known

  fits : SFits w64 (D *ℤ pos (1000 * F))
  fits = fits_size _ (omega (arith, small, abs_is (D *ℤ pos (1000 * F))))

pub divide-requires : goal.divide-requires
divide-requires c =
    let good = tested c.args.difference c.args.samples c.args.rate (rw (back c.ranges.difference) at c.is_count.ensures)
    c.is_samples.ensures c.is_rate.ensures c.if-not-is_count-is_samples.false in
    let k = limits _ _ _ good in
    rw (back c.ranges.difference, read_f k, back (fits k)) (small k, omega arith, omega arith)

pub returns : goal.returns
unfolding speed_by_count
returns c =
    let good = tested c.args.difference c.args.samples c.args.rate (rw (back c.ranges.difference) at c.is_count.ensures)
    c.is_samples.ensures c.is_rate.ensures c.if-not-is_count-is_samples.false in
    let k = limits _ _ _ good in
    rw good (ap Ok (rw (back c.ranges.difference, read_f k, back (fits k)) at c.divide.ensures))
