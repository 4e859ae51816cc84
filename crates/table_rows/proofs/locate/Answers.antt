use Rattle.std.specs.Prelude.{Result, Ok, Err}
use native.Mathlib.Omega.{arith}
use mathlib.Core.Path.{sym, ap, ◌∙◌}
use lib.ListN.{length}
use Rattle.refusal.specs.declared.Refusal.{Refusal}
use Rattle.refusal.proofs.PassLaws.{passed_on}
use Rattle.axis.specs.declared.row.Row.{Row}
use Rattle.table_rows.proofs.RowsLaws.{axes_fit}
use Rattle.table_rows.proofs.LocatedLaws.{axes_counted, axes_refused, found_none, found_past, found_at}
use Rattle.table_rows.proofs.locate.Goals as goal

pub returns-in_err-n : goal.returns-in_err-n
returns-in_err-n c =
    let k = axes_refused _ _ (sym c.axes_or_length.ensures ∙ c.in_err-n.was) in
    passed_on c.from_residual.ensures.1 (ap Err k.1 ∙ found_none _ _ k.0)

pub read_row-requires : goal.read_row-requires
read_row-requires c = let k = axes_counted _ _ (sym c.axes_or_length.ensures ∙ c.in_ok-n.was) in omega (arith, k, axes_fit (length c.args.table.now))

pub returns-then-axis-n : goal.returns-then-axis-n
returns-then-axis-n c =
    let k = axes_counted _ _ (sym c.axes_or_length.ensures ∙ c.in_ok-n.was) in
    ap {B = Result Row Refusal} (λ (r : Row). Ok r) c.read_row.ensures ∙ found_at _ _ (omega (arith, k))

pub returns : goal.returns
returns c = let k = axes_counted _ _ (sym c.axes_or_length.ensures ∙ c.in_ok-n.was) in found_past _ _ (omega (arith, k)) (omega (arith, k))
