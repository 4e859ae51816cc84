-- The tag of the field after the layout: docs/RULES.md, "The record of a whole table".
use Rattle.std.specs.Prelude.{ℕ}

-- The number of axes.
abbrev pub count_tag : ℕ
count_tag = 8
