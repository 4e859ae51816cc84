use mathlib.Core.Path.{refl}
use Rattle.table_rows.specs.Table.{set_row}
use Rattle.table_rows.proofs.write_row.Goals as goal

pub returns : goal.returns
unfolding set_row
returns c = refl
