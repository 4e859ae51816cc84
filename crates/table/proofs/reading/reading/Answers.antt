use mathlib.Core.Path.{refl, sym, ◌∙◌}
use Rattle.refusal.proofs.PassLaws.{passed_on}
use Rattle.row_calls.proofs.StatusLaws.{held_position}
use Rattle.row_counter.proofs.ReadingLaws.{read_in_range}
use Rattle.table_rows.proofs.LocatedLaws.{found_fits}
use Rattle.table.proofs.CallLaws.{not_read, found_unread, found_commits}
use Rattle.table.proofs.reading.reading.Goals as goal

pub returns-in_err-row : goal.returns-in_err-row
returns-in_err-row c =
    rw (passed_on c.from_residual.ensures.1 refl) (not_read _ _ _ _ (sym c.locate.ensures ∙ c.in_err-row.was))

pub returns-in_err-position : goal.returns-in_err-position
returns-in_err-position c =
    let k = rw c.in_err-position.was at c.read.ensures in
    rw (passed_on c.from_residual-in_err-position.ensures.1 refl)
    (found_unread _ _ _ _ _ (sym c.locate.ensures ∙ c.in_ok-row.was) k.0 k.1)

pub commit-requires : goal.commit-requires
commit-requires c = found_fits _ _ _ (sym c.locate.ensures ∙ c.in_ok-row.was)

pub returns : goal.returns
returns c =
    let k = rw c.in_ok-position.was at c.read.ensures in
    let h = held_position c.in_ok-position.position (read_in_range c.args.reading c.in_ok-row.row c.in_ok-position.position (sym k.0)) in
    rw h (found_commits _ _ _ _ _ (sym c.locate.ensures ∙ c.in_ok-row.was) k.0 k.1 c.commit.ensures)
