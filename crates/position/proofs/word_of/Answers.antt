use Prim.Native.Nat.{◌^◌, ◌≤◌}
use native.Mathlib.Omega.{arith}
use lib.IntN.{ℤ, pos, ◌+ℤ◌}
use mir.Syntax.{w64}
use mir.Val.{SFits}
use Rattle.integers.specs.Integer.{plus, minus}
use Rattle.integers.proofs.Balance.{bal_add}
use Rattle.integers.proofs.Machine.{back, fits_i64, to_u64, no_neg, abs_nonneg}
use Rattle.position.proofs.PositionLaws.{range_is, bal_word}
use Rattle.position.proofs.word_of.Goals as goal

module _ (c : goal.Start) where
  abbrev p : ℤ
  p = c.args.position

  abbrev s : ℤ
  s = p +ℤ pos (2 ^ 62)

  above : minus s ≤ plus s
  above = omega (arith, range_is p c.requires, bal_add p (pos (2 ^ 62)))

  fits : SFits w64 s
  fits = let z = no_neg s above in fits_i64 s (omega (arith, range_is p c.requires, bal_add p (pos (2 ^ 62)))) (omega arith)

pub overflow_add-result : goal.overflow_add-result
overflow_add-result c = rw (back c.ranges.position) (fits c)

pub overflow_cast-result : goal.overflow_cast-result
overflow_cast-result c = rw (back c.ranges.position) (to_u64 (s c) (fits c) (above c))

pub returns : goal.returns
returns c =
    rw (back c.ranges.position, back (fits c), abs_nonneg (s c) (above c))
    (omega (arith, bal_word (p c) c.requires, bal_add (p c) (pos (2 ^ 62)), no_neg (s c) (above c)))
