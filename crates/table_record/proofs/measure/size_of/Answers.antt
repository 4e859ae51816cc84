use mathlib.Core.Path.{◌∙◌}
use native.Mathlib.Omega.{arith}
use lib.ListN.{length}
use Rattle.table_rows.proofs.RowsLaws.{axes_most}
use Rattle.table_record.proofs.SizeLaws.{size_none, size_next, size_small}
use Rattle.table_record.proofs.measure.size_of.Goals as goal

pub loop-k-init : goal.loop-k-init
loop-k-init c = let e = c.default-size.ensures in size_none c.default-size.result c.args.rows.now e.0 e.1.0 e.1.1

pub with_row-size-requires : goal.with_row-size-requires
with_row-size-requires c =
    let s = size_small c.loop-k.k c.args.rows.now in
    let m = axes_most (length c.args.rows.now) in
    rw c.loop-k.invariant (omega (arith, s.0, c.count-k-end.ensures), omega (arith, s.1, c.count-k-end.ensures))

pub loop-k-preserved : goal.loop-k-preserved
loop-k-preserved c =
    let l = c.loop-k in
    c.with_row-size.ensures ∙ rw (l.invariant, c.said_by.ensures, c.row.ensures) (size_next l.k c.args.rows.now)
