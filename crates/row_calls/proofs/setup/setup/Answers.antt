use Rattle.std.proofs.Common.{rules}
use mathlib.Core.Path.{sym, subst}
use Prim.Native.Nat.{◌^◌}
use Rattle.axis.specs.Row.{Narrow}
use Rattle.axis_sound.proofs.SoundLaws.{setup_held}
use Rattle.row_calls.proofs.setup.setup.Goals as goal

pub pack-requires : goal.pack-requires
pack-requires c = subst Narrow (sym c.setup.ensures) (setup_held c.in_ok-config.config (2 ^ 62) (search rules)).narrow
