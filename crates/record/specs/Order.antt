-- The checks of a record, each by itself, and the answer that the first failing one gives: docs/RULES.md, "The saved record", and the lines
-- VALUE, LAYOUT and RECORD of "Reasons for saying no".
use Rattle.std.specs.Prelude.{◌≡◌, Bool, true, false, not, cond, ◌&&◌, List, ℕ, eqb, length, Result, Ok, Err}
use Rattle.refusal.specs.declared.Refusal.TheVariants.{Value, Layout, Record}
use Rattle.axis.specs.Kind.{counter_kind}
use Rattle.record_axis.specs.declared.saved.Saved.{Saved}
use Rattle.tagged.specs.Bytes.{number_at, starts}
use Rattle.record.specs.Opening.{opening}
use Rattle.record_axis.specs.Tags.{kind_tag, position_tag, depth_tag, width_tag, turn_tag}
use Rattle.record.specs.Tags.{layout_tag, end_tag}
use Rattle.record_axis.specs.AxisFields.{known_kind, counter_as, sampled_as}
use Rattle.record_axis.specs.Limits.{saying, within_limits}
use Rattle.tagged.specs.Field.{stands_at}
use Rattle.refusal.specs.declared.Refusal.{Refusal}

-- Whether a slice opens 01 00 02 with two more bytes that are not 00 01.
unfoldable pub has_other_layout : List ℕ → Bool
has_other_layout s = stands_at s 0 layout_tag 2 && not (starts opening s)

-- The layout number that stands in the two bytes after the first three.
abbrev pub layout_in : List ℕ → ℕ
layout_in s = number_at s 3 2

-- Whether the tags and lengths of the first nine bytes are right.
unfoldable pub nine_stand : List ℕ → Bool
nine_stand s = starts opening s && stands_at s 5 kind_tag 1

-- The kind in the ninth byte.
abbrev pub kind_in : List ℕ → ℕ
kind_in s = number_at s 8 1

-- Whether the total length and the tags and lengths after the ninth byte are right for the kind.
unfoldable pub rest_stands : List ℕ → Bool
rest_stands s =
    stands_at s 9 position_tag 8 && cond (counter_kind (kind_in s))
    (stands_at s 20 width_tag 1 && stands_at s 24 end_tag 0 && eqb (length s) 27)
    (stands_at s 20 depth_tag 1 && stands_at s 24 turn_tag 4 && stands_at s 31 end_tag 0 && eqb (length s) 34)

-- What the values of a slice with these shapes say.
unfoldable pub said_in : List ℕ → Saved
said_in s =
    saying
    (cond (counter_kind (kind_in s))
    (counter_as (kind_in s) (number_at s 23 1))
    (sampled_as (kind_in s) (number_at s 23 1) (number_at s 27 4)))
    (number_at s 12 8)

-- The answer to a slice, a line for each check that can be the first to fail and one for none.
pub data Judged (s : List ℕ) (r : Result Saved Refusal) : Type 0 where
  other_layout : has_other_layout s ≡ true → r ≡ Err (Layout (layout_in s)) → Judged s r
  bad_nine : has_other_layout s ≡ false → nine_stand s ≡ false → r ≡ Err Record → Judged s r
  bad_kind : nine_stand s ≡ true → known_kind (kind_in s) ≡ false → r ≡ Err Value → Judged s r
  bad_rest : nine_stand s ≡ true → known_kind (kind_in s) ≡ true → rest_stands s ≡ false → r ≡ Err Record → Judged s r
  bad_value : nine_stand s ≡ true → known_kind (kind_in s) ≡ true → rest_stands s ≡ true → within_limits (said_in s) ≡ false → r ≡ Err Value →
      Judged s r
  all_good : nine_stand s ≡ true → known_kind (kind_in s) ≡ true → rest_stands s ≡ true → within_limits (said_in s) ≡ true →
      r ≡ Ok (said_in s) → Judged s r
