-- A table of axes in a slice of words: docs/RULES.md, "One row, four words".
use Rattle.std.specs.Prelude.{ℕ, ◌+◌, ◌*◌, ◌/◌, ◌%◌, ◌^◌, ◌<◌, cond, ◌&&◌, List, eqb, leb, get_or, set}
use Rattle.axis.specs.Limit.{most_axes}
use Rattle.axis.specs.declared.row.Row.{Row}

-- How many axes a slice of so many words holds: n for 4n words, n from 1 to the most there may be, and 0 for any other length.
unfoldable pub axes_in : ℕ → ℕ
axes_in len = cond (eqb (len % 4) 0 && leb (len / 4) most_axes) (len / 4) 0

-- Row k of a table.
unfoldable pub row_at : List ℕ → ℕ → Row
row_at t k =
    record { w0 = get_or t (k * 4) 0; w1 = get_or t (k * 4 + 1) 0; w2 = get_or t (k * 4 + 2) 0; w3 = get_or t (k * 4 + 3) 0 }

-- A table with row k replaced.
unfoldable pub set_row : List ℕ → ℕ → Row → List ℕ
set_row t k r = set (set (set (set t (k * 4) r.w0) (k * 4 + 1) r.w1) (k * 4 + 2) r.w2) (k * 4 + 3) r.w3

-- Every word of a table has 64 bits.
abbrev pub AllWords : List ℕ → Type 0
AllWords t = (i : ℕ) → get_or t i 0 < 2 ^ 64
