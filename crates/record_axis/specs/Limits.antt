-- What a record says of an axis, and its limits: docs/RULES.md, "The saved record".
use Rattle.std.specs.Prelude.{Bool, ◌&&◌, ℕ}
use Rattle.std.specs.Int.{w64}
use Rattle.std.proofs.Common.{to_z}
use Rattle.position.specs.Position.{in_range}
use Rattle.axis.specs.Config.{good_config}
use Rattle.axis.specs.declared.config.Config.{Config}
use Rattle.record_axis.specs.declared.saved.Saved.{Saved}

-- Whether a configuration and a position are within their limits.
unfoldable pub within_limits : Saved → Bool
within_limits s = good_config s.config.kind s.config.depth s.config.width s.config.turn && in_range s.position

-- What a configuration and the 64 bits of a position, in two's complement, say.
abbrev pub saying : Config → ℕ → Saved
saying c bits = record { config = c; position = to_z w64 bits }
