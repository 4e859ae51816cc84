use mathlib.Core.Path.{sym, ◌∙◌}
use Rattle.table_rows.proofs.LocatedLaws.{axes_counted, axes_refused}
use Rattle.table_rows.proofs.axes_in.Goals as goal

pub returns-in-Ok : goal.returns-in-Ok
returns-in-Ok c = sym (axes_counted _ _ (sym c.axes_or_length.ensures ∙ c.in-Ok.is)).0

pub returns-in-Err : goal.returns-in-Err
returns-in-Err c = sym (axes_refused _ _ (sym c.axes_or_length.ensures ∙ c.in-Err.is)).0
