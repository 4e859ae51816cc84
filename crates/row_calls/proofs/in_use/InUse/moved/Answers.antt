use mathlib.Core.Path.{ap}
use Prim.Native.Nat.{ℕ}
use Rattle.integers.proofs.Machine.{back}
use Rattle.position.proofs.PositionLaws.{word_holds}
use Rattle.row_calls.specs.Change.{changed}
use borrow.Author.Rules.{rules}
use Rattle.row_calls.proofs.in_use.InUse.moved.Goals as goal

pub invariant_of-result : goal.invariant_of-result
invariant_of-result c =
    (rw (c.word_of.ensures, back c.ranges.position) (word_holds c.args.position c.requires), search rules)

pub returns : goal.returns
unfolding changed
returns c =
    let x = c.args.self in
    rw c.self.view_is (ap (λ (n : ℕ). changed x n x.flags x.doubles) (rw (back c.ranges.position) at c.word_of.ensures))
