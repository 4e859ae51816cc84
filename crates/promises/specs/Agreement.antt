-- Two runs that agree on one axis: demand 3, what it asks and what it gives.
use Rattle.std.specs.Prelude.{ℕ, ◌<◌, ◌≡◌, List, length}
use Rattle.table_rows.specs.Table.{axes_in, row_at}
use Rattle.runs.specs.Run.{Call, table_run, heard, rows}
use Rattle.promises.specs.Own.{events}

-- Two tables of one legal length with the row k, and a run on each: they agree on row k, and on k's own part of every call, in the same
-- order.
pub record BeginAlike (k : ℕ) (t u : List ℕ) (cs ds : List Call) : Type 0 where
  pub there : k < axes_in (length t)
  pub size : length t ≡ length u
  pub row : row_at t k ≡ row_at u k
  pub events : events k cs ≡ events k ds

-- What the two runs then agree on: row k at the end and after each of k's own events, and all that axis k is told, its answers, the
-- bytes that a save wrote and its bits of the masks.
pub record EndAlike (k : ℕ) (t u : List ℕ) (cs ds : List Call) : Type 0 where
  pub row : row_at (table_run t cs) k ≡ row_at (table_run u ds) k
  pub answers : heard k t cs ≡ heard k u ds
  pub rows : rows k t cs ≡ rows k u ds
