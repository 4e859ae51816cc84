use mathlib.Core.Path.{◌≡◌, ◌∙◌}
use Prim.Native.Nat.{ℕ, ◌^◌, ◌<◌}
use native.Mathlib.Omega.{arith}
use lib.IntN.{pos}
use mir.Syntax.{w64}
use mir.Val.{to_z, of_z}
use mir.Facts.{to_z_pos}
use Rattle.integers.proofs.Machine.{back, back_ok}
use Rattle.speed.specs.Rounding.{away_from}
use Rattle.speed.proofs.RoundingLaws.{Sized, quotient, fits_twice, fits_dividend, fits_divisor, fits_quotient}
use Rattle.speed.proofs.to_nearest.Goals as goal

read_t : (d : ℕ) → d < 2 ^ 32 → to_z w64 d ≡ pos d
read_t d h = to_z_pos w64 (omega arith)

pub overflow_add-result : goal.overflow_add-result
overflow_add-result c =
    let k : Sized c.args.n c.args.divisor = record { small = c.requires.0; some = c.requires.1; few = c.requires.2 } in
    let read : to_z w64 (of_z w64 c.args.n) ≡ c.args.n = back c.ranges.n in
    let side : to_z w64 (of_z w64 c.away.result) ≡ away_from c.args.n c.args.divisor = back_ok c.away.type_inv ∙ (rw read at c.away.ensures) in
    rw (side, read, back (fits_twice k)) (fits_dividend k)

pub nonzero_div-result : goal.nonzero_div-result
nonzero_div-result c =
    let k : Sized c.args.n c.args.divisor = record { small = c.requires.0; some = c.requires.1; few = c.requires.2 } in
    let read : to_z w64 (of_z w64 c.args.n) ≡ c.args.n = back c.ranges.n in
    let side : to_z w64 (of_z w64 c.away.result) ≡ away_from c.args.n c.args.divisor = back_ok c.away.type_inv ∙ (rw read at c.away.ensures) in
    rw (side, read, read_t c.args.divisor k.few, back (fits_twice k), back (fits_dividend k), back (fits_divisor k)) (omega arith, fits_quotient k)

pub returns : goal.returns
returns c =
    let k : Sized c.args.n c.args.divisor = record { small = c.requires.0; some = c.requires.1; few = c.requires.2 } in
    let read : to_z w64 (of_z w64 c.args.n) ≡ c.args.n = back c.ranges.n in
    let side : to_z w64 (of_z w64 c.away.result) ≡ away_from c.args.n c.args.divisor = back_ok c.away.type_inv ∙ (rw read at c.away.ensures) in
    rw (side, read, read_t c.args.divisor k.few, back (fits_twice k), back (fits_dividend k), back (fits_divisor k), back (fits_quotient k))
    (quotient c.args.n c.args.divisor)
