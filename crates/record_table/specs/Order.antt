-- The checks of a whole table's record, field by field from the left, and the answer that the first failing one gives: docs/RULES.md, "The
-- record of a whole table".
use Rattle.std.specs.Prelude.{◌≡◌, Bool, true, false, ◌&&◌, cond, List, [], ℕ, zero, suc, ◌+◌, ◌^◌, eqb, leb, ltb, length, Result, Ok, Err, Option, Some, None}
use Rattle.std.specs.Int.{w64}
use Rattle.std.proofs.Common.{to_z}
use Rattle.refusal.specs.declared.Refusal.TheVariants.{Value, Layout, Record}
use Rattle.position.specs.Position.{in_range}
use Rattle.axis.specs.Kind.{counter_kind}
use Rattle.axis.specs.Limit.{most_axes}
use Rattle.axis.specs.declared.config.Config.{Config}
use Rattle.tagged.specs.Bytes.{number_at, starts}
use Rattle.tagged.specs.Field.{stands_at}
use Rattle.record_axis.specs.Tags.{kind_tag, position_tag, depth_tag, width_tag, turn_tag}
use Rattle.record_axis.specs.AxisFields.{known_kind, counter_as, sampled_as}
use Rattle.record_axis.specs.Limits.{saying}
use Rattle.record.specs.Tags.{layout_tag, end_tag}
use Rattle.record.specs.Order.{layout_in}
use Rattle.record_entry.specs.Tags.{axis_tag}
use Rattle.record_entry.specs.declared.entry.Entry.{Entry}
use Rattle.record_table.specs.Opening.{table_opening}
use Rattle.record_table.specs.Tags.{count_tag}
use Rattle.record_table.specs.TableRecord.{before}
use Rattle.refusal.specs.declared.Refusal.{Refusal}

-- The field that comes next, with the values before it that it goes by: how many entries are left after this one, the least number of an
-- axis, its number, its kind, the bits of its position and its depth.
pub data Wanted : Type 0 where
  count : Wanted
  number : ℕ → ℕ → Wanted
  kind : ℕ → ℕ → Wanted
  position : ℕ → ℕ → ℕ → Wanted
  width : ℕ → ℕ → ℕ → ℕ → Wanted
  depth : ℕ → ℕ → ℕ → ℕ → Wanted
  turn : ℕ → ℕ → ℕ → ℕ → ℕ → Wanted
  end : Wanted

-- Its tag.
abbrev pub tag_of : Wanted → ℕ
tag_of count = count_tag
tag_of (number left least) = axis_tag
tag_of (kind left k) = kind_tag
tag_of (position left k m) = position_tag
tag_of (width left k m bits) = width_tag
tag_of (depth left k m bits) = depth_tag
tag_of (turn left k m bits d) = turn_tag
tag_of end = end_tag

-- How many bytes its value has.
abbrev pub size_of : Wanted → ℕ
size_of count = 1
size_of (number left least) = 1
size_of (kind left k) = 1
size_of (position left k m) = 8
size_of (width left k m bits) = 1
size_of (depth left k m bits) = 1
size_of (turn left k m bits d) = 4
size_of end = 0

-- Whether a value is within its limits.
abbrev pub fits : Wanted → ℕ → Bool
fits count v = leb v most_axes
fits (number left least) v = leb least v
fits (kind left k) v = known_kind v
fits (position left k m) v = in_range (to_z w64 v)
fits (width left k m bits) v = leb 2 v && leb v 32
fits (depth left k m bits) v = leb 1 v && leb v 8
fits (turn left k m bits d) v = ltb v (2 ^ 32)
fits end v = true

-- What comes after the last field of an entry: another one, whose number is above, or the end.
abbrev pub entries_left : ℕ → ℕ → Wanted
entries_left zero least = end
entries_left (suc left) least = number left least

-- The field after one with a value; after the end there is none.
abbrev pub field_after : Wanted → ℕ → Option Wanted
field_after count v = Some (entries_left v 0)
field_after (number left least) v = Some (kind left v)
field_after (kind left k) v = Some (position left k v)
field_after (position left k m) v = Some (cond (counter_kind m) (width left k m v) (depth left k m v))
field_after (width left k m bits) v = Some (entries_left left (suc k))
field_after (depth left k m bits) v = Some (turn left k m bits v)
field_after (turn left k m bits d) v = Some (entries_left left (suc k))
field_after end v = None

-- The axis that a configuration and the bits of a position say.
abbrev pub entry_of : ℕ → Config → ℕ → Entry
entry_of k c bits = record { axis = k; saved = saying c bits }

-- What a value adds to what the rest says: the last field of an entry adds its axis.
abbrev pub adds : Wanted → ℕ → Result (List Entry) Refusal → Result (List Entry) Refusal
adds count v a = a
adds (number left least) v a = a
adds (kind left k) v a = a
adds (position left k m) v a = a
adds (width left k m bits) v a = before (entry_of k (counter_as m v) bits) a
adds (depth left k m bits) v a = a
adds (turn left k m bits d) v a = before (entry_of k (sampled_as m d v) bits) a
adds end v a = a

-- The answer from a place on: tag and length first, RECORD where they are not there or the slice ends early; then the value, VALUE outside
-- its limits; then the next field; and after the end nothing may follow.
pub data Goes (s : List ℕ) : Option Wanted → ℕ → Result (List Entry) Refusal → Type 0 where
  unshaped : {w : Wanted} {at : ℕ} → stands_at s at (tag_of w) (size_of w) ≡ false → Goes s (Some w) at (Err Record)
  unfit : {w : Wanted} {at : ℕ} → stands_at s at (tag_of w) (size_of w) ≡ true → fits w (number_at s (at + 3) (size_of w)) ≡ false →
      Goes s (Some w) at (Err Value)
  on : {w : Wanted} {at : ℕ} {a : Result (List Entry) Refusal} → stands_at s at (tag_of w) (size_of w) ≡ true → fits w (number_at s (at + 3) (size_of w)) ≡ true →
      Goes s (field_after w (number_at s (at + 3) (size_of w))) (at + 3 + size_of w) a →
      Goes s (Some w) at (adds w (number_at s (at + 3) (size_of w)) a)
  whole : {at : ℕ} → eqb (length s) at ≡ true → Goes s None at (Ok [])
  trailing : {at : ℕ} → eqb (length s) at ≡ false → Goes s None at (Err Record)

-- The answer to a slice: LAYOUT before all, which needs five bytes that open 01 00 02; and then field by field.
pub data TableJudged (s : List ℕ) (r : Result (List Entry) Refusal) : Type 0 where
  no_layout : stands_at s 0 layout_tag 2 ≡ false → r ≡ Err Record → TableJudged s r
  other_layout : stands_at s 0 layout_tag 2 ≡ true → starts table_opening s ≡ false → r ≡ Err (Layout (layout_in s)) → TableJudged s r
  by_fields : starts table_opening s ≡ true → Goes s (Some count) 5 r → TableJudged s r
