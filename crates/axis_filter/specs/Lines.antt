-- The three lines and the raw levels of a sample: docs/RULES.md, "A port sample".
use Rattle.std.specs.Prelude.{ℕ, Bool}
use Rattle.fields.specs.Field.{flag_of}
use Rattle.axis_filter.specs.declared.Line.{Line}
use Rattle.axis_filter.specs.declared.Lines.{Lines}
use Rattle.axis_filter.specs.declared.Raw.{Raw}

-- The three lines.
pub data Wire : Type 0 where
  A B Z : Wire
  deriving Discrete as Wire-discrete

-- The raw levels of a sample's four bits; the fourth is not read.
abbrev pub raw_of : ℕ → Raw
raw_of nibble = record { a = flag_of 0 nibble; b = flag_of 1 nibble; z = flag_of 2 nibble }

-- The raw level of a line.
unfoldable pub level_of : Raw → Wire → Bool
level_of s A = s.a
level_of s B = s.b
level_of s Z = s.z

-- Three lines, by name.
unfoldable pub three : Lines → Wire → Line
three n A = n.a
three n B = n.b
three n Z = n.z
