-- One field of a record, a head of tag and length and then the value: docs/RULES.md, "The saved record".
use Rattle.std.specs.Prelude.{Bool, cond, ◌&&◌, List, ◌∷◌, ◌++◌, ℕ, ◌+◌, eqb, leb, length, take, drop, get_or, Option, Some, None}
use Rattle.tagged.specs.Bytes.{number_in, number_at, bytes_of}

-- A field's head: its tag, and the length of its value in two bytes.
abbrev pub head_bytes : ℕ → ℕ → List ℕ
head_bytes tag n = tag ∷ bytes_of 2 n

-- A field that holds a value of any bytes.
abbrev pub field_holding : ℕ → List ℕ → List ℕ
field_holding tag value = head_bytes tag (length value) ++ value

-- A field that holds a number of n bytes.
unfoldable pub field_bytes : ℕ → ℕ → ℕ → List ℕ
field_bytes tag n v = field_holding tag (bytes_of n v)

-- The head at a place: its tag and the length of its value.
unfoldable pub head_at : List ℕ → ℕ → Option (ℕ × ℕ)
head_at s at = cond (leb (at + 3) (length s)) (Some (get_or s at 0, number_at s (at + 1) 2)) None

-- The value of n bytes behind the head at a place.
abbrev pub value_at : List ℕ → ℕ → ℕ → List ℕ
value_at s at n = take n (drop (at + 3) s)

-- Whether a whole field with a tag and a length of n stands at a place.
abbrev pub stands_at : List ℕ → ℕ → ℕ → ℕ → Bool
stands_at s at tag n = leb (at + 3 + n) (length s) && (eqb (get_or s at 0) tag && eqb (number_at s (at + 1) 2) n)

-- The field at a place that holds a number of n bytes: the number, and where the next field begins.
unfoldable pub field_at : List ℕ → ℕ → ℕ → ℕ → Option (ℕ × ℕ)
field_at s at tag n = cond (stands_at s at tag n) (Some (number_in (value_at s at n), at + 3 + n)) None
