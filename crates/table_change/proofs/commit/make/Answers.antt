use mathlib.Core.Path.{refl, sym, ◌∙◌}
use Rattle.refusal.proofs.PassLaws.{passed_on}
use Rattle.table_rows.proofs.LocatedLaws.{found_fits}
use Rattle.table_change.proofs.MakingLaws.{not_found, found_makes}
use Rattle.table_change.proofs.commit.make.Goals as goal

pub returns-in_err-row : goal.returns-in_err-row
returns-in_err-row g c rule h =
    rw (passed_on c.from_residual.ensures.1 refl) (not_found rule _ _ _ (sym c.locate.ensures ∙ c.in_err-row.was))

pub commit-requires : goal.commit-requires
commit-requires g c = found_fits _ _ _ (sym c.locate.ensures ∙ c.in_ok-row.was)

pub returns : goal.returns
returns g c rule h =
    found_makes rule _ _ _ _ (sym c.locate.ensures ∙ c.in_ok-row.was) (h _ _ c.change.ensures) c.commit.ensures
