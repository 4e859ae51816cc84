use Rattle.std.specs.Prelude.{Ok}
use borrow.Author.Rules.{rules}
use mathlib.Core.Path.{◌≡◌, ap, ◌∙◌}
use Prim.Native.Nat.{◌+◌}
use mathlib.Core.List.{[]}
use native.Mathlib.Omega.{arith}
use lib.ListN.{length}
use Rattle.axis.specs.Limit.{most_axes}
use Rattle.record_table.specs.TableRecord.{entries_bytes}
use Rattle.table_rows.specs.Table.{axes_in}
use Rattle.table_rows.proofs.RowsLaws.{axes_most}
use Rattle.table_record.specs.Saving.{row_says, entry_of_row, entries_to}
use Rattle.table_record.proofs.SizeLaws.{puts_none, one_next, bytes_grow, puts_next, puts_same}
use Rattle.table_record.proofs.save.put_rows.Goals as goal

pub loop-k-init : goal.loop-k-init
unfolding entries_to entries_bytes
loop-k-init c = puts_none c.args.buf.now c.args.at

pub overflow_cast-axis : goal.overflow_cast-axis
unfolding most_axes
overflow_cast-axis c = record { fits = omega (arith, c.count-k-end.ensures, axes_most (length c.args.rows.now)) }

pub put_entry-next-requires : goal.put_entry-next-requires
put_entry-next-requires c =
    let l = c.loop-k in
    let t = c.args.rows.now in
    let said = c.in-Ok-Some.is ∙ ap Ok c.in-Ok-Some.field-0-is in
    omega (
      arith,
      one_next l.k t (c.said_by.ensures ∙ ap row_says c.row.ensures) said,
      bytes_grow (axes_in (length t)) (l.k + 1) t (omega (arith, c.count-k-end.ensures)),
      l.invariant.behind,
      c.requires,
    )

pub loop-k-preserved-in_default : goal.loop-k-preserved-in_default
loop-k-preserved-in_default c =
    let none : entry_of_row c.loop-k.k c.said_by.result ≡ [] = search rules in
    puts_same c.loop-k.k c.args.rows.now (c.said_by.ensures ∙ ap row_says c.row.ensures) none c.loop-k.invariant

pub loop-k-preserved : goal.loop-k-preserved
loop-k-preserved c =
    puts_next c.loop-k.k c.args.rows.now (c.said_by.ensures ∙ ap row_says c.row.ensures) (c.in-Ok-Some.is ∙ ap Ok c.in-Ok-Some.field-0-is)
    c.loop-k.invariant c.put_entry-next.ensures
