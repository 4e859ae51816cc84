use mathlib.Core.Path.{◌∙◌}
use Rattle.refusal.proofs.PassLaws.{passed_on}
use Rattle.table_change.specs.Making.{table_after}
use Rattle.table_change.proofs.commit.commit.Goals as goal

pub returns-in_err-change : goal.returns-in_err-change
unfolding table_after
returns-in_err-change c =
    record { answer = passed_on c.from_residual.ensures.1 (rw c.in_err-change.was); table = rw c.in_err-change.was }

pub returns : goal.returns
unfolding table_after
returns c = record { answer = rw c.in_ok-change.was; table = c.write_row.ensures ∙ rw c.in_ok-change.was }
