-- The tag of an entry's first field: docs/RULES.md, "The record of a whole table".
use Rattle.std.specs.Prelude.{ℕ}

-- The number of an axis.
abbrev pub axis_tag : ℕ
axis_tag = 9
