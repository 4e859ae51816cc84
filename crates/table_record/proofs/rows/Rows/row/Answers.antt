use Prim.Native.Nat.{◌<◌}
use native.Mathlib.Omega.{arith}
use lib.ListN.{length}
use Rattle.table_rows.specs.Table.{axes_in}
use Rattle.table_rows.proofs.RowsLaws.{axes_fit}
use Rattle.table_record.proofs.rows.Rows.row.Goals as goal

pub read_row-requires : goal.read_row-requires
read_row-requires c =
    let h : c.args.k < axes_in (length c.self.inside.words.now) = rw c.self.view_is c.requires in
    omega (arith, axes_fit (length c.self.inside.words.now))
