-- A trace of one axis, and what it reports: docs/RULES.md, "Trace program".
use Rattle.std.specs.Prelude.{ℕ, ◌+◌, ◌-◌, ◌%◌, ◌^◌, min, List, [], ◌∷◌, map, length, take}
use Rattle.position.specs.Position.{position_of}
use Rattle.axis.specs.Kind.{X4}
use Rattle.axis.specs.Row.{axis_of, row_of, fresh}
use Rattle.axis.specs.declared.row.Row.{Row}
use Rattle.row_sample.specs.Sample.{step_row}
use Rattle.row_view.specs.View.{view_value}
use Rattle.row_calls.specs.Calls.{config_of, setup_row}
use Rattle.row_view.specs.declared.answer.View.{View}
use Rattle.table_port.specs.Port.{sampled_table}
use Rattle.table_change.specs.Making.{ruled, table_after}
use Rattle.table.specs.Call.{viewed_in}
use Rattle.trace_axis.specs.declared.trace.Trace.{Trace}
use Rattle.text.specs.declared.report.Report.{Report}

-- How many bytes are looked at in all.
abbrev pub LIMIT : ℕ
LIMIT = 2 ^ 32 - 1

-- ---- what the calls promise

-- Four words that hold no axis.
abbrev pub no_axis : List ℕ
no_axis = 0 ∷ 0 ∷ 0 ∷ 0 ∷ []

-- A trace before its first byte: one x4 axis, set up at depth 1 with no counts per turn.
unfoldable pub started : Trace
started = record { words = table_after no_axis 0 (ruled (setup_row X4 1 0 0) no_axis 0); samples = 0 }

-- A table after bytes, oldest first, each of them one port sample.
unfoldable pub traced_by : List ℕ → List ℕ → List ℕ
traced_by t [] = t
traced_by t (b ∷ bs) = traced_by (sampled_table t b) bs

-- The bytes that are still looked at where so many were before.
abbrev pub looked_at : ℕ → List ℕ → List ℕ
looked_at n bs = take (LIMIT - n) bs

-- A trace after bytes, oldest first.
unfoldable pub fed_with : Trace → List ℕ → Trace
fed_with x bs = record {
  words = traced_by x.words (looked_at x.samples bs);
  samples = x.samples + length (looked_at x.samples bs);
}

-- What a trace reports, of its samples and of what a view of its axis shows.
abbrev pub reported : ℕ → View → Report
reported n v = record { samples = n; position = v.position; doubles = v.doubles }

-- What a trace reports.
unfoldable pub report_of : Trace → Report
report_of x = reported x.samples (view_value (viewed_in x.words 0))

-- ---- what a whole input comes to

-- The low four bits of a byte.
abbrev pub low_four : ℕ → ℕ
low_four b = b % 2 ^ 4

-- A row after samples of its own four bits, oldest first.
unfoldable pub stepped_by : Row → List ℕ → Row
stepped_by r [] = r
stepped_by r (n ∷ ns) = stepped_by (step_row r n).row ns

-- The row that an x4 axis at depth 1 with no counts per turn has after a whole input.
abbrev pub input_row : List ℕ → Row
input_row bs = stepped_by (row_of (fresh (config_of X4 1 0 0))) (map low_four (take LIMIT bs))

-- What a whole input comes to: its bytes up to the limit, and that row's position and doubles.
abbrev pub input_report : List ℕ → Report
input_report bs = record {
  samples = min LIMIT (length bs);
  position = position_of (input_row bs).w0;
  doubles = (axis_of (input_row bs)).doubles;
}
