use mathlib.Core.Path.{sym, ap, ◌∙◌}
use mathlib.Core.List.{List}
use Prim.Native.Nat.{ℕ}
use lib.ListN.{length}
use Rattle.table_rows.specs.Table.{axes_in}
use Rattle.table_record.specs.Saving.{size_to}
use Rattle.table_record.proofs.RowsLaws.{rows_some, rows_none}
use Rattle.table_record.proofs.SizeLaws.{size_none}
use Rattle.table_record.proofs.measure.measure.Goals as goal

pub returns-in-Ok : goal.returns-in-Ok
returns-in-Ok c =
    let k = rows_some c.args.table.now (sym c.try_from.ensures ∙ c.in-Ok.is) in
    c.size_of.ensures
    ∙ ap (λ (u : List ℕ). size_to (axes_in (length u)) u) k.0
    ∙ ap (λ (n : ℕ). size_to n c.args.table.now) (sym c.requires)

pub returns-in-Err : goal.returns-in-Err
returns-in-Err c =
    let k = rows_none c.args.table.now (sym c.try_from.ensures ∙ c.in-Err.is) in
    let z = c.default.ensures in
    size_none c.default.result c.args.table.now z.0 z.1.0 z.1.1
    ∙ ap (λ (n : ℕ). size_to n c.args.table.now) (sym (c.requires ∙ k.0))
