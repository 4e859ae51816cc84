-- What docs/RULES.md states, computed to its end: "The saved record", one field, high byte first in its length and in its value.
use Rattle.std.specs.Prelude.{Some, None}
use mathlib.Core.Path.{◌≡◌, refl}
use mathlib.Core.List.{[], ◌∷◌}
use Rattle.tagged.specs.Bytes.{number_from, bytes_of}
use Rattle.tagged.specs.Field.{head_bytes, field_bytes, head_at, field_at}

-- Tag 06 with 4096 in four bytes, and a head of tag 03 and length 258.
pub field_written : (field_bytes 6 4 4096 ≡ 6 ∷ 0 ∷ 4 ∷ 0 ∷ 0 ∷ 16 ∷ 0 ∷ []) × (head_bytes 3 258 ≡ 3 ∷ 1 ∷ 2 ∷ [])
unfolding bytes_of field_bytes
field_written = (refl, refl)

-- The same between other bytes: the number and the place behind it, tag and length, and what is cut by a byte.
pub field_read :
    (field_at (9 ∷ 6 ∷ 0 ∷ 4 ∷ 0 ∷ 0 ∷ 16 ∷ 0 ∷ 9 ∷ []) 1 6 4 ≡ Some (4096, 8))
    × (field_at (9 ∷ 6 ∷ 0 ∷ 4 ∷ 0 ∷ 0 ∷ 16 ∷ []) 1 6 4 ≡ None)
    × (head_at (9 ∷ 3 ∷ 1 ∷ 2 ∷ []) 1 ≡ Some (3, 258))
    × (head_at (9 ∷ 3 ∷ 1 ∷ []) 1 ≡ None)
unfolding number_from head_at field_at
field_read = (refl, refl, refl, refl)
