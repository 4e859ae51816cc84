use mathlib.Core.Path.{sym, ◌∙◌}
use Rattle.refusal.proofs.PassLaws.{passed_on}
use Rattle.table_record.proofs.RowsLaws.{rows_held, rows_refused, many}
use Rattle.table_record.proofs.rows.RowsTryFromRefSliceU64.try_from.Goals as goal

pub returns-in_err-count : goal.returns-in_err-count
returns-in_err-count c = passed_on c.from_residual.ensures.1 (rows_refused c.args.words.now (sym c.axes_or_length.ensures ∙ c.in_err-count.was))

pub invariant_of-result : goal.invariant_of-result
invariant_of-result c = many c.args.words.now (sym c.axes_or_length.ensures ∙ c.in_ok-count.was)

pub returns : goal.returns
returns c = rows_held c.args.words.now (sym c.axes_or_length.ensures ∙ c.in_ok-count.was)
