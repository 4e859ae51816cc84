-- What the filter, the tables and the index line make of an axis and a sample: docs/RULES.md, "A port sample".
use Rattle.std.specs.Prelude.{ℕ, false, get_or, Option}
use Rattle.axis.specs.Kind.{X4}
use Rattle.axis.specs.declared.row.Axis.{Axis}
use Rattle.axis_filter.specs.Lines.{Wire, A, B, Z, level_of}
use Rattle.axis_filter.specs.Filter.{filter_line}
use Rattle.axis_filter.specs.declared.Line.{Line}
use Rattle.axis_filter.specs.declared.Lines.{Lines}
use Rattle.axis_filter.specs.declared.Raw.{Raw}
use Rattle.axis_decode.specs.Decode.{code, entry}
use Rattle.axis_decode.specs.declared.Move.{Move}
use Rattle.axis_index.specs.Index.{edge_by}
use Rattle.axis_index.specs.declared.Way.{Way}

-- The line at a place of an axis's levels and runs.
abbrev pub line_in : Axis → ℕ → Line
line_in x place = record { level = get_or x.levels place false; run = get_or x.runs place 0 }

-- The three lines of an axis.
abbrev pub lines_of : Axis → Lines
lines_of x = record { a = line_in x 0; b = line_in x 1; z = line_in x 2 }

-- The place of each.
unfoldable pub place_of : Wire → ℕ
place_of A = 0
place_of B = 1
place_of Z = 2

-- A line as an axis has it.
unfoldable pub line : Axis → Wire → Line
line x w = line_in x (place_of w)

-- The filtered lines of an axis after a sample.
unfoldable pub filtered : Axis → Raw → Wire → Line
filtered x s w = filter_line x.config.depth (line x w) (level_of s w)

-- The entry that a kind's table has where the filtered lines of an axis become n.
abbrev entry_to : ℕ → Axis → (Wire → Line) → Move
entry_to kind x n = entry kind (code (line x A).level (line x B).level) (code (n A).level (n B).level)

-- The entry of an axis whose filtered lines become n, which is its mode's.
unfoldable pub move_to : Axis → (Wire → Line) → Move
move_to x n = entry_to x.config.kind x n

-- Its reference edge, which goes by x4's entry, whatever its mode counts.
unfoldable pub edge_to : Axis → (Wire → Line) → Option Way
edge_to x n = edge_by (entry_to X4 x n) (line x Z).level (n Z).level
