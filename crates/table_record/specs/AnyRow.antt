-- A test of the rows of a table, one after another.
use Rattle.std.specs.Prelude.{ℕ, zero, suc, Bool, false, ◌||◌, List}
use Rattle.axis.specs.declared.row.Row.{Row}
use Rattle.table_rows.specs.Table.{row_at}

-- Whether one of the first n rows, with its number, passes a test.
unfoldable pub any_row : (ℕ → Row → Bool) → ℕ → List ℕ → Bool
any_row f zero t = false
any_row f (suc k) t = any_row f k t || f k (row_at t k)
