-- What docs/RULES.md states, computed to its end: "The saved record", the fields of one axis.
use Rattle.std.specs.Prelude.{Ok, Err}
use mathlib.Core.Path.{◌≡◌, refl}
use mathlib.Core.List.{List, [], ◌∷◌, ◌++◌, map}
use Prim.Native.Nat.{ℕ, ◌-◌, ◌^◌}
use lib.IntN.{negsuc}
use Rattle.refusal.specs.declared.Refusal.TheVariants.{Value, Record}
use Rattle.axis.specs.declared.config.Config.{Config}
use Rattle.tagged.specs.Bytes.{number_from, bytes_of}
use Rattle.tagged.specs.Field.{field_at, field_bytes}
use Rattle.record_axis.specs.AxisFields.{counter_at, sampled_at, axis_at, front_bytes, setting_bytes, axis_bytes}
use Rattle.record_axis.specs.Limits.{saying}

-- An x4 axis of depth 3 and 4096 counts per turn.
abbrev x4 : Config
x4 = record { kind = 4; depth = 3; width = 0; turn = 4096 }

-- A counter of 12 bits.
abbrev counter : Config
counter = record { kind = 8; depth = 0; width = 12; turn = 0 }

-- The bytes of that axis at position -2: tags 02, 03, 04 and 06.
abbrev x4_bytes : List ℕ
x4_bytes =
    2 ∷ 0 ∷ 1 ∷ 4
    ∷ 3 ∷ 0 ∷ 8 ∷ 255 ∷ 255 ∷ 255 ∷ 255 ∷ 255 ∷ 255 ∷ 255 ∷ 254
    ∷ 4 ∷ 0 ∷ 1 ∷ 3
    ∷ 6 ∷ 0 ∷ 4 ∷ 0 ∷ 0 ∷ 16 ∷ 0 ∷ []

-- The bytes of that counter at position -2: tags 02, 03 and 05.
abbrev counter_bytes : List ℕ
counter_bytes =
    2 ∷ 0 ∷ 1 ∷ 8
    ∷ 3 ∷ 0 ∷ 8 ∷ 255 ∷ 255 ∷ 255 ∷ 255 ∷ 255 ∷ 255 ∷ 255 ∷ 254
    ∷ 5 ∷ 0 ∷ 1 ∷ 12 ∷ []

-- The fields of each are those bytes.
pub axis_written :
    (axis_bytes (record { config = x4; position = negsuc 1 }) ≡ x4_bytes)
    × (axis_bytes (record { config = counter; position = negsuc 1 }) ≡ counter_bytes)
unfolding bytes_of field_bytes front_bytes setting_bytes axis_bytes
axis_written = (refl, refl)

-- Read between other bytes, those bytes say each again, with the position's 64 bits, which say -2, and the place behind them.
pub axis_read :
    (axis_at (9 ∷ (x4_bytes ++ (9 ∷ []))) 1 ≡ Ok (x4, 2 ^ 64 - 2, 27))
    × (axis_at (9 ∷ (counter_bytes ++ (9 ∷ []))) 1 ≡ Ok (counter, 2 ^ 64 - 2, 20))
    × (saying x4 (2 ^ 64 - 2) ≡ record { config = x4; position = negsuc 1 })
unfolding number_from field_at counter_at sampled_at axis_at
axis_read = (refl, refl, refl)

-- A kind field alone is VALUE where its kind is none of the four, and else RECORD.
pub kind_first :
    map (λ (kind : ℕ). axis_at (2 ∷ 0 ∷ 1 ∷ kind ∷ []) 0) (0 ∷ 1 ∷ 2 ∷ 3 ∷ 4 ∷ 5 ∷ 6 ∷ 7 ∷ 8 ∷ 9 ∷ [])
    ≡ map Err (Value ∷ Record ∷ Record ∷ Value ∷ Record ∷ Value ∷ Value ∷ Value ∷ Record ∷ Value ∷ [])
unfolding number_from field_at counter_at sampled_at axis_at
kind_first = refl
