-- Positions and the words that hold them: docs/RULES.md, "One row, four words".
use Rattle.std.specs.Prelude.{Bool, ◌&&◌, ℕ, suc, ◌+◌, ◌-◌, ◌^◌, ◌<◌, ltb, leb, ℤ, pos, negsuc, nat_abs, ◌-ℤ◌}

-- A position runs from -(2 ^ 62 - 1) to 2 ^ 62 - 1.
unfoldable pub in_range : ℤ → Bool
in_range p = ltb (nat_abs p) (2 ^ 62)

-- The words of positions are those from 1 to 2 ^ 63 - 1.
abbrev pub is_word : ℕ → Bool
is_word w = leb 1 w && leb w (2 ^ 63 - 1)

-- A word that holds a position.
pub record Word (w : ℕ) : Type 0 where
  pub above : 0 < w
  pub below : w < 2 ^ 63

-- A row's word 0 is its position + 2 ^ 62.
unfoldable pub word_of : ℤ → ℕ
word_of (pos n) = n + 2 ^ 62
word_of (negsuc n) = 2 ^ 62 - suc n

-- The position of a row whose word 0 is w.
unfoldable pub position_of : ℕ → ℤ
position_of w = pos w -ℤ pos (2 ^ 62)
