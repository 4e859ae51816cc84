use mathlib.Core.Path.{refl}
use native.Mathlib.Omega.{arith}
use borrow.Author.Tests.{ne_eqb}
use mir.Syntax.{w8}
use mir.Val.{of_z}
use Rattle.axis_decode.proofs.DecodeLaws.{told_is}
use Rattle.axis_decode.proofs.entry_at.Goals as goal

pub returns-in-0 : goal.returns-in-0
returns-in-0 c = told_is 0 c.mark_at.ensures (omega arith)

pub returns-in-1 : goal.returns-in-1
returns-in-1 c = told_is 1 c.mark_at.ensures (omega arith)

pub returns-in-2 : goal.returns-in-2
returns-in-2 c = told_is 2 c.mark_at.ensures (omega arith)

pub returns-in_default : goal.returns-in_default
returns-in_default c =
    let n = of_z w8 c.mark_at.result in
    rw (ne_eqb n 0 (λ e. omega arith), ne_eqb n 1 (λ e. omega arith), ne_eqb n 2 (λ e. omega arith))
    at (told_is n c.mark_at.ensures refl)
