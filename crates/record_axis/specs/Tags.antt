-- The tags of an axis's fields: docs/RULES.md, "The saved record".
use Rattle.std.specs.Prelude.{ℕ}

-- The kind of an axis.
abbrev pub kind_tag : ℕ
kind_tag = 2

-- Its position.
abbrev pub position_tag : ℕ
position_tag = 3

-- The depth of a sampled axis.
abbrev pub depth_tag : ℕ
depth_tag = 4

-- The width of a counter.
abbrev pub width_tag : ℕ
width_tag = 5

-- The counts per turn of a sampled axis.
abbrev pub turn_tag : ℕ
turn_tag = 6
