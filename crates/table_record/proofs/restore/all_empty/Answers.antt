use borrow.Author.Rules.{rules}
use mathlib.Core.Path.{◌≡◌, refl, ap, ◌∙◌}
use mathlib.Core.Bool.{true, false}
use Prim.Native.Nat.{ℕ, ◌<◌}
use native.Mathlib.Omega.{arith}
use lib.ListN.{length}
use Rattle.std.proofs.lemmas.Iterator.{cases_from_all, serves_from_Range, YieldsList-from_range}
use Rattle.axis_sound.specs.Sound.{is_empty}
use Rattle.table_rows.specs.Table.{axes_in, row_at}
use Rattle.table_record.specs.Restoring.{all_empty}
use Rattle.table_record.proofs.RestoringLaws.{empty_by}
use Rattle.table_record.proofs.restore.all_empty.Goals as goal

pub all-requires-clause-callable : goal.all-requires-clause-callable
all-requires-clause-callable c =
    serves_from_Range (λ x q k. search rules) (λ x a b.
    let there : x < axes_in (length c.args.rows.now) = omega (arith, c.count.ensures) in
    search rules)

pub returns : goal.returns
returns c =
    let t = c.args.rows.now in
    let n = c.count.result in
    empty_by n t c.all.result (cases_from_all _ _ _ (λ (k : ℕ). is_empty (row_at t k) ≡ true) (λ (k : ℕ). is_empty (row_at t k) ≡ false)
    c.all.ensures.ran (YieldsList-from_range 0 n n refl (omega arith)) (λ x q k. search rules) (λ x q k. search rules))
    ∙ ap (λ (m : ℕ). all_empty m t) c.count.ensures
