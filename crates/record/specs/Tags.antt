-- The tags of a record's first field and of its last: docs/RULES.md, "The saved record".
use Rattle.std.specs.Prelude.{ℕ}

-- The layout number.
abbrev pub layout_tag : ℕ
layout_tag = 1

-- The end.
abbrev pub end_tag : ℕ
end_tag = 127
