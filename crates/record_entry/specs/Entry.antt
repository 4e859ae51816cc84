-- One axis in the record of a whole table, at any place of a slice or a buffer: docs/RULES.md, "The record of a whole table". Every value
-- is judged after its own field, before the next field is looked at.
use Rattle.std.specs.Prelude.{cond, List, ◌++◌, ℕ, leb, ℤ, Result, Ok, Err}
use Rattle.std.specs.Int.{w64}
use Rattle.std.proofs.Common.{to_z}
use Rattle.refusal.specs.declared.Refusal.TheVariants.{Value, Record}
use Rattle.position.specs.Position.{in_range}
use Rattle.axis.specs.Kind.{counter_kind}
use Rattle.axis.specs.Config.{good_config}
use Rattle.tagged.specs.Field.{field_at, field_bytes}
use Rattle.record_axis.specs.Tags.{kind_tag, position_tag, depth_tag, width_tag, turn_tag}
use Rattle.record_axis.specs.AxisFields.{on_field, known_kind, counter_as, sampled_as, axis_bytes}
use Rattle.record_entry.specs.Tags.{axis_tag}
use Rattle.record_entry.specs.declared.entry.Entry.{Entry}
use Rattle.refusal.specs.declared.Refusal.{Refusal}
use Rattle.record_axis.specs.declared.saved.Saved.{Saved}

-- ---- reading

-- The fields of a counter after its position: the width, RECORD where it does not stand there and VALUE where it is outside its limits.
unfoldable pub counter_from : List ℕ → ℕ → ℕ → ℤ → Result (Saved × ℕ) Refusal
counter_from s at kind z =
    on_field (Err Record) (field_at s at width_tag 1) (λ width at.
    cond (good_config kind 0 width 0) (Ok (record { config = counter_as kind width; position = z }, at)) (Err Value))

-- The fields of a sampled axis after its position: the depth alike, and then the counts per turn.
unfoldable pub sampled_from : List ℕ → ℕ → ℕ → ℤ → Result (Saved × ℕ) Refusal
sampled_from s at kind z =
    on_field (Err Record) (field_at s at depth_tag 1) (λ depth at.
    cond (good_config kind depth 0 0)
    (on_field (Err Record) (field_at s at turn_tag 4) (λ turn at.
    cond (good_config kind depth 0 turn) (Ok (record { config = sampled_as kind depth turn; position = z }, at)) (Err Value)))
    (Err Value))

-- The fields of an axis from a place on, and where the next field begins.
unfoldable pub saved_at : List ℕ → ℕ → Result (Saved × ℕ) Refusal
saved_at s at =
    on_field (Err Record) (field_at s at kind_tag 1) (λ kind at.
    cond (known_kind kind)
    (on_field (Err Record) (field_at s at position_tag 8) (λ bits at.
    cond (in_range (to_z w64 bits))
    (cond (counter_kind kind) (counter_from s at kind (to_z w64 bits)) (sampled_from s at kind (to_z w64 bits)))
    (Err Value)))
    (Err Value))

-- What an axis's fields say, with its number before them.
abbrev pub numbered : ℕ → Result (Saved × ℕ) Refusal → Result (Entry × ℕ) Refusal
numbered k (Ok (x, next)) = Ok (record { axis = k; saved = x }, next)
numbered k (Err r) = Err r

-- The entry at a place, and where the next begins: its number, VALUE below the least that it may be, and then the fields of its axis.
unfoldable pub entry_from : List ℕ → ℕ → ℕ → Result (Entry × ℕ) Refusal
entry_from s at least =
    on_field (Err Record) (field_at s at axis_tag 1) (λ k at.
    cond (leb least k) (numbered k (saved_at s at)) (Err Value))

-- ---- writing

-- An entry: the field of its number, and the fields of its axis as layout 1 has them.
unfoldable pub entry_bytes : Entry → List ℕ
entry_bytes e = field_bytes axis_tag 1 e.axis ++ axis_bytes e.saved
