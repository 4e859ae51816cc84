-- The fields of one axis, 02 to 06, at any place of a slice or a buffer: docs/RULES.md, "The saved record".
use Rattle.std.specs.Prelude.{Bool, cond, ◌||◌, List, ◌++◌, ℕ, Result, Option, Ok, Err, Some, None}
use Rattle.std.specs.Int.{w64}
use Rattle.std.proofs.Common.{of_z}
use Rattle.refusal.specs.declared.Refusal.TheVariants.{Value, Record}
use Rattle.axis.specs.Kind.{sampled_kind, counter_kind}
use Rattle.axis.specs.declared.config.Config.{Config}
use Rattle.tagged.specs.Field.{field_at, field_bytes}
use Rattle.record_axis.specs.declared.saved.Saved.{Saved}
use Rattle.record_axis.specs.Tags.{kind_tag, position_tag, depth_tag, width_tag, turn_tag}
use Rattle.refusal.specs.declared.Refusal.{Refusal}

-- ---- reading

-- A field's answer: on with its value and the next place, or a refusal at once.
abbrev pub on_field : {A : Type 0} → A → Option (ℕ × ℕ) → (ℕ → ℕ → A) → A
on_field refused (Some (v, next)) k = k v next
on_field refused None k = refused

-- Whether a number is one of the four kinds.
abbrev pub known_kind : ℕ → Bool
known_kind k = sampled_kind k || counter_kind k

-- A counter's configuration.
abbrev pub counter_as : ℕ → ℕ → Config
counter_as kind width = record { kind = kind; depth = 0; width = width; turn = 0 }

-- A sampled axis's configuration.
abbrev pub sampled_as : ℕ → ℕ → ℕ → Config
sampled_as kind depth turn = record { kind = kind; depth = depth; width = 0; turn = turn }

-- The fields of a counter after its position.
unfoldable pub counter_at : List ℕ → ℕ → ℕ → ℕ → Result (Config × ℕ × ℕ) Refusal
counter_at s at kind bits =
    on_field (Err Record) (field_at s at width_tag 1) (λ width at.
    Ok (counter_as kind width, bits, at))

-- The fields of a sampled axis after its position.
unfoldable pub sampled_at : List ℕ → ℕ → ℕ → ℕ → Result (Config × ℕ × ℕ) Refusal
sampled_at s at kind bits =
    on_field (Err Record) (field_at s at depth_tag 1) (λ depth at.
    on_field (Err Record) (field_at s at turn_tag 4) (λ turn at.
    Ok (sampled_as kind depth turn, bits, at)))

-- The fields of an axis from a place on: the configuration and the 64 bits of the position that they say, whatever their limits, and
-- where the next field begins; or RECORD for the first field that does not stand there, VALUE for a kind that is none.
unfoldable pub axis_at : List ℕ → ℕ → Result (Config × ℕ × ℕ) Refusal
axis_at s at =
    on_field (Err Record) (field_at s at kind_tag 1) (λ kind at.
    cond (known_kind kind)
    (on_field (Err Record) (field_at s at position_tag 8) (λ bits at.
    cond (counter_kind kind) (counter_at s at kind bits) (sampled_at s at kind bits)))
    (Err Value))

-- ---- writing

-- The kind and the position: 15 bytes.
unfoldable pub front_bytes : ℕ → ℕ → List ℕ
front_bytes kind bits = field_bytes kind_tag 1 kind ++ field_bytes position_tag 8 bits

-- The fields of a configuration after the position: 4 bytes for a counter, else 11.
unfoldable pub setting_bytes : Config → List ℕ
setting_bytes c =
    cond (counter_kind c.kind)
    (field_bytes width_tag 1 c.width)
    (field_bytes depth_tag 1 c.depth ++ field_bytes turn_tag 4 c.turn)

-- The fields of an axis: 19 bytes for a counter, else 26.
unfoldable pub axis_bytes : Saved → List ℕ
axis_bytes s = front_bytes s.config.kind (of_z w64 s.position) ++ setting_bytes s.config

-- How many bytes the fields of an axis of a kind are.
abbrev pub axis_length : ℕ → ℕ
axis_length kind = cond (counter_kind kind) 19 26
