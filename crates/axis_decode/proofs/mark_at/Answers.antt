use borrow.Author.Tests.{ne_eqb}
use native.Mathlib.Omega.{arith}
use Rattle.axis_decode.specs.Decode.{table_of, entry, mark, x1, x2, x4}
use Rattle.axis_decode.proofs.DecodeLaws.{read_in_lem}
use Rattle.axis_decode.proofs.mark_at.Goals as goal

pub returns-in-4 : goal.returns-in-4
unfolding table_of entry mark x4
returns-in-4 c = rw c.in-4.is (read_in_lem x4 c.args.old c.args.new)

pub returns-in-2 : goal.returns-in-2
unfolding table_of entry mark x2
returns-in-2 c = rw c.in-2.is (read_in_lem x2 c.args.old c.args.new)

pub returns-in_default : goal.returns-in_default
unfolding table_of entry mark x1
returns-in_default c =
    let kind = c.args.kind in
    rw (ne_eqb kind 4 (λ e. omega arith), ne_eqb kind 2 (λ e. omega arith)) (read_in_lem x1 c.args.old c.args.new)
