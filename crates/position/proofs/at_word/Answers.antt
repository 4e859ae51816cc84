use mathlib.Core.Path.{◌≡◌}
use native.Mathlib.Omega.{arith}
use lib.IntN.{pos}
use mir.Syntax.{w64}
use mir.Val.{SFits, to_z}
use mir.Facts.{to_z_pos}
use Rattle.integers.proofs.Machine.{back, fits_size}
use Rattle.position.specs.Position.{position_of}
use Rattle.position.proofs.PositionLaws.{position_small}
use Rattle.position.proofs.at_word.Goals as goal

module _ (c : goal.Start) where
  read : to_z w64 c.args.word ≡ pos c.args.word
  read = to_z_pos w64 (omega arith)

  fits : SFits w64 (position_of c.args.word)
  fits = fits_size _ (omega (arith, position_small c.args.word c.requires))

pub returns : goal.returns
unfolding position_of
returns c = rw (read c, back (fits c))
