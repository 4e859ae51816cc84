use mathlib.Core.Path.{sym, ◌∙◌}
use Rattle.refusal.proofs.PassLaws.{passed_on}
use Rattle.record.proofs.RecordLaws.{accepted_within}
use Rattle.row_saving.specs.Saving.{restore_row, restored_by}
use Rattle.row_saving.proofs.restore.Goals as goal

pub put_in-requires : goal.put_in-requires
put_in-requires c = accepted_within _ _ (sym c.read.ensures ∙ c.in_ok-saved.was)

pub returns-in_err-saved : goal.returns-in_err-saved
unfolding restore_row restored_by
returns-in_err-saved c = passed_on c.from_residual.ensures.1 (rw (sym c.read.ensures ∙ c.in_err-saved.was))

pub returns : goal.returns
unfolding restore_row restored_by
returns c =
    rw (sym c.read.ensures ∙ c.in_ok-saved.was) c.put_in.ensures
