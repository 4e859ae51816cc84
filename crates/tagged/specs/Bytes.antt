-- Numbers in bytes, high byte first: docs/RULES.md, "The saved record".
use Rattle.std.specs.Prelude.{Bool, true, false, ◌&&◌, List, [], ◌∷◌, ◌++◌, ℕ, zero, suc, ◌+◌, ◌*◌, ◌/◌, ◌%◌, ◌<◌, eqb, take, drop, get_or}

-- Every element is a byte.
abbrev pub AllBytes : List ℕ → Type 0
AllBytes s = (i : ℕ) → get_or s i 0 < 256

-- A number with the bytes of a list behind it, each after the ones before.
unfoldable pub number_from : ℕ → List ℕ → ℕ
number_from v [] = v
number_from v (b ∷ bs) = number_from (v * 256 + b) bs

-- The number in a list of bytes.
abbrev pub number_in : List ℕ → ℕ
number_in bs = number_from 0 bs

-- The number in n bytes from a place.
abbrev pub number_at : List ℕ → ℕ → ℕ → ℕ
number_at s at n = number_in (take n (drop at s))

-- A number in n bytes.
unfoldable pub bytes_of : ℕ → ℕ → List ℕ
bytes_of zero v = []
bytes_of (suc n) v = bytes_of n (v / 256) ++ (v % 256 ∷ [])

-- Whether the second list begins with the first.
unfoldable pub starts : List ℕ → List ℕ → Bool
starts [] s = true
starts (x ∷ xs) [] = false
starts (x ∷ xs) (y ∷ ys) = eqb x y && starts xs ys
