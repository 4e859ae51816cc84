use mathlib.Core.Path.{refl}
use Rattle.table_rows.specs.Table.{row_at}
use Rattle.table_rows.proofs.read_row.Goals as goal

pub returns : goal.returns
unfolding row_at
returns c = refl
