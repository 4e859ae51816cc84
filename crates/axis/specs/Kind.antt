-- The kinds of axis and their numbers: docs/RULES.md, "One row, four words". No other definition writes one of these numbers.
use Rattle.std.specs.Prelude.{ℕ, Bool, ◌||◌, eqb}

-- An axis of which one edge in a cycle of four is counted.
abbrev pub X1 : ℕ
X1 = 1

-- An axis of which two edges are counted.
abbrev pub X2 : ℕ
X2 = 2

-- An axis of which all four edges are counted.
abbrev pub X4 : ℕ
X4 = 4

-- A narrow counter.
abbrev pub COUNTER : ℕ
COUNTER = 8

-- The kinds that port samples move.
abbrev pub sampled_kind : ℕ → Bool
sampled_kind k = eqb k X1 || eqb k X2 || eqb k X4

-- The kind that readings move.
abbrev pub counter_kind : ℕ → Bool
counter_kind k = eqb k COUNTER
