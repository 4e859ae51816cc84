-- The filter: docs/RULES.md, "A port sample", Filter.
use Rattle.std.specs.Prelude.{ℕ, ◌+◌, ◌<◌, Bool, cond, not, eqb}
use Rattle.std.specs.Bool.{beq}
use Rattle.axis_filter.specs.declared.Line.{Line}
use Rattle.axis_filter.specs.declared.Lines.{Lines}
use Rattle.axis_filter.specs.declared.Raw.{Raw}

-- One line at depth d: a raw level equal to the filtered one ends the run; another makes it longer, and at d the level flips and it ends.
unfoldable pub filter_line : ℕ → Line → Bool → Line
filter_line d l raw =
    cond (beq raw l.level) (record { level = l.level; run = 0 })
    (cond (eqb (l.run + 1) d) (record { level = not l.level; run = 0 })
    (record { level = l.level; run = l.run + 1 }))

-- The three lines at depth d after a sample.
abbrev pub filter_lines : ℕ → Lines → Raw → Lines
filter_lines d l s = record { a = filter_line d l.a s.a; b = filter_line d l.b s.b; z = filter_line d l.z s.z }

-- Each run is below the depth d.
pub record Short (d : ℕ) (l : Lines) : Type 0 where
  pub run_a : l.a.run < d
  pub run_b : l.b.run < d
  pub run_z : l.z.run < d
