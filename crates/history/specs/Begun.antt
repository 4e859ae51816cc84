-- Where the sums of a sampled row begin: docs/RULES.md, "A port sample", Count.
use Rattle.std.specs.Prelude.{◌≡◌, List, ℤ}
use Rattle.axis.specs.declared.row.Row.{Row}
use Rattle.history_axis.specs.Tally.{given, clear, place_tally, doubles_tally}
use Rattle.runs.specs.Event.{Event}
use Rattle.history.specs.Phase.{start_axis, acts_since}

-- After events the sum of a row's entries begins at the position z with RANGE clear, and its doubles begin at 0.
pub record SumsBegin (r : Row) (h : List Event) (z : ℤ) : Type 0 where
  pub place : place_tally (start_axis r h) (acts_since r h) ≡ given (clear z)
  pub doubles : doubles_tally (start_axis r h) (acts_since r h) ≡ given 0
