-- The rows of a table: docs/RULES.md, "One row, four words".
use Rattle.std.specs.Prelude.{ℕ, List, cond, eqb, length, Result, Ok, Err}
use Rattle.refusal.specs.declared.Refusal.{Refusal}
use Rattle.refusal.specs.declared.Refusal.TheVariants.{Length}
use Rattle.table_rows.specs.Table.{axes_in}

-- The words of a table that holds an axis or more, or LENGTH.
unfoldable pub rows_of : List ℕ → Result (List ℕ) Refusal
rows_of t = cond (eqb (axes_in (length t)) 0) (Err Length) (Ok t)
