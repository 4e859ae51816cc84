use mathlib.Core.Path.{◌≡◌, ◌∙◌}
use Prim.Native.Nat.{ℕ, ◌^◌, ◌<◌}
use native.Mathlib.Omega.{arith}
use lib.IntN.{pos}
use mir.Syntax.{w64}
use mir.Val.{to_z, of_z}
use mir.Facts.{to_z_pos}
use Rattle.integers.proofs.Machine.{back, back_ok, fits_size}
use Rattle.speed.specs.Rounding.{rounded, divided}
use Rattle.speed.proofs.RoundingLaws.{Sized, fits_product, room, fits_remainder}
use Rattle.speed.proofs.divide.Goals as goal

read_t : (d : ℕ) → d < 2 ^ 32 → to_z w64 d ≡ pos d
read_t d h = to_z_pos w64 (omega arith)

pub overflow_mul-remainder : goal.overflow_mul-remainder
overflow_mul-remainder c =
    let k : Sized c.args.n c.args.divisor = record { small = c.requires.0; some = c.requires.1; few = c.requires.2 } in
    let number : to_z w64 (of_z w64 c.to_nearest-number.result) ≡ rounded c.args.n c.args.divisor =
    back_ok c.to_nearest-number.type_inv ∙ (rw (back c.ranges.n) at c.to_nearest-number.ensures) in
    rw (number, read_t c.args.divisor k.few) (fits_product k)

pub overflow_sub-remainder : goal.overflow_sub-remainder
overflow_sub-remainder c =
    let k : Sized c.args.n c.args.divisor = record { small = c.requires.0; some = c.requires.1; few = c.requires.2 } in
    let number : to_z w64 (of_z w64 c.to_nearest-number.result) ≡ rounded c.args.n c.args.divisor =
    back_ok c.to_nearest-number.type_inv ∙ (rw (back c.ranges.n) at c.to_nearest-number.ensures) in
    rw (number, read_t c.args.divisor k.few, back c.ranges.n, back (fits_product k)) (fits_size _ (omega (arith, room k)))

pub returns : goal.returns
unfolding divided
returns c =
    let k : Sized c.args.n c.args.divisor = record { small = c.requires.0; some = c.requires.1; few = c.requires.2 } in
    let number : to_z w64 (of_z w64 c.to_nearest-number.result) ≡ rounded c.args.n c.args.divisor =
    back_ok c.to_nearest-number.type_inv ∙ (rw (back c.ranges.n) at c.to_nearest-number.ensures) in
    simp (number, read_t c.args.divisor k.few, back c.ranges.n, back (fits_product k), back (fits_remainder k))
