use mathlib.Core.Path.{◌≡◌, ap, ◌∙◌}
use Prim.Native.Nat.{ℕ, suc, ◌-◌}
use native.Mathlib.Omega.{arith}
use lib.Seq.{sets}
use Rattle.tagged.specs.Bytes.{bytes_of}
use Rattle.tagged.proofs.StoreLaws.{bytes_last}
use Rattle.tagged.proofs.bytes.put_number.Goals as goal

pub loop-j-preserved : goal.loop-j-preserved
loop-j-preserved c =
    let l = c.loop-j in
    let a = c.args in
    let e : suc (l.j - 1) ≡ l.j = omega arith in
    bytes_last l.buf a.at (l.j - 1) l.rest ∙ ap (λ (k : ℕ). sets l.buf a.at (bytes_of k l.rest)) e ∙ l.invariant

pub returns : goal.returns
unfolding bytes_of
returns c =
    let l = c.loop-j in
    let e : 0 ≡ l.j = omega arith in
    ap (λ (k : ℕ). sets l.buf c.args.at (bytes_of k l.rest)) e ∙ l.invariant
