-- The saved record, layout 1: docs/RULES.md, "The saved record".
use Rattle.std.specs.Prelude.{◌≡◌, Bool, cond, ◌&&◌, List, ◌++◌, ℕ, eqb, leb, length, take, Result, Option, Ok, Err, Some, None, ⊤}
use Rattle.std.proofs.lemmas.List.Edits.{sets}
use Rattle.refusal.specs.declared.Refusal.{Refusal}
use Rattle.refusal.specs.declared.Refusal.TheVariants.{Value, Room, Layout, Record}
use Rattle.axis.specs.Kind.{counter_kind}
use Rattle.axis.specs.declared.config.Config.{Config}
use Rattle.tagged.specs.Bytes.{starts}
use Rattle.tagged.specs.Field.{field_at, field_bytes}
use Rattle.record_axis.specs.declared.saved.Saved.{Saved}
use Rattle.record.specs.Opening.{opening}
use Rattle.record.specs.Tags.{layout_tag, end_tag}
use Rattle.record_axis.specs.AxisFields.{on_field, axis_at, axis_bytes}
use Rattle.record_axis.specs.Limits.{within_limits, saying}
use Rattle.record.specs.Answer.{tested_of}

-- ---- reading

-- A check: on where it holds, else the refusal at once.
abbrev pub check : Bool → Refusal → Result Saved Refusal → Result Saved Refusal
check t r x = cond t x (Err r)

-- A layout field's answer where the opening is missing: LAYOUT with its number, or RECORD.
abbrev pub layout_found : Option (ℕ × ℕ) → Refusal
layout_found (Some (n, next)) = Layout n
layout_found None = Record

-- The LAYOUT refusal of a slice without the opening, or RECORD where it has no layout field.
unfoldable pub layout_refusal : List ℕ → Refusal
layout_refusal s = layout_found (field_at s 0 layout_tag 2)

-- The end field with nothing after it, and then the limits.
unfoldable pub ended_at : List ℕ → ℕ → Config → ℕ → Result Saved Refusal
ended_at s at c bits =
    on_field (Err Record) (field_at s at end_tag 0) (λ _ at.
    check (eqb (length s) at) Record
    (check (within_limits (saying c bits)) Value
    (Ok (saying c bits))))

-- The answer of an axis's fields: on with what they say and the next place, or their refusal at once.
abbrev pub on_axis : Result (Config × ℕ × ℕ) Refusal → (Config → ℕ → ℕ → Result Saved Refusal) → Result Saved Refusal
on_axis (Ok (c, bits, next)) k = k c bits next
on_axis (Err r) k = Err r

-- What a reader answers to a slice, the whole of which is the record.
unfoldable pub read_as : List ℕ → Result Saved Refusal
read_as s =
    check (starts opening s) (layout_refusal s)
    (on_axis (axis_at s 5) (λ c bits at.
    ended_at s at c bits))

-- What a test answers to a slice.
abbrev pub tested_as : List ℕ → Result ⊤ Refusal
tested_as s = tested_of (read_as s)

-- ---- writing

-- The record of a configuration and a position: the opening, the axis's fields and the end.
unfoldable pub record_of : Saved → List ℕ
record_of s = opening ++ (axis_bytes s ++ field_bytes end_tag 0 0)

-- What a save answers in a buffer of some length: VALUE, then ROOM, or the number of bytes.
unfoldable pub saved_as : ℕ → Saved → Result ℕ Refusal
saved_as room s =
    cond (within_limits s)
    (cond (leb (length (record_of s)) room) (Ok (length (record_of s))) (Err Room))
    (Err Value)

-- What a save leaves in a buffer: the record at the front, or on a refusal all as it was.
unfoldable pub written : List ℕ → Saved → List ℕ
written b s = cond (within_limits s && leb (length (record_of s)) (length b)) (sets b 0 (record_of s)) b

-- What a save answers and leaves in a buffer.
abbrev pub SavedInto : List ℕ → Saved → Result ℕ Refusal → List ℕ → Type 0
SavedInto b s r last = (r ≡ saved_as (length b) s) × (last ≡ written b s)

-- The shape of every record of a kind: the five opening bytes, and 34 bytes, or 27 for a counter.
pub record Shaped (kind : ℕ) (s : List ℕ) : Type 0 where
  pub opens : take 5 s ≡ opening
  pub long : length s ≡ cond (counter_kind kind) 27 34
