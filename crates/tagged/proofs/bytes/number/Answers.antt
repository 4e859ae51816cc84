use mathlib.Core.Path.{refl, sym, ap, ◌∙◌}
use Prim.Native.Nat.{ℕ, ◌+◌, ◌-◌, ◌^◌, ◌<◌}
use native.Mathlib.Omega.{arith}
use lib.ListN.{take, drop, length-take}
use lib.Seq.{take_all}
use Rattle.tagged.specs.Bytes.{AllBytes, number_in, number_from}
use Rattle.tagged.proofs.BytesLaws.{number_more, few_below, bytes_take, bytes_drop}
use Rattle.tagged.proofs.bytes.number.Goals as goal

pub loop-byte-init : goal.loop-byte-init
unfolding number_from
loop-byte-init c = refl

pub overflow_mul-v : goal.overflow_mul-v
overflow_mul-v c =
    let small : c.loop-byte.v < 256 ^ 7 = few_below _ _ (bytes_take _ _ (bytes_drop _ _ (λ k. (c.type_inv.slice k).fits))) c.loop-byte.invariant (omega (arith, length-take {A = ℕ})) in
    omega (arith, small)

pub overflow_add-v : goal.overflow_add-v
overflow_add-v c =
    let bytes : AllBytes (take (c.args.at + c.args.n - c.args.at) (drop c.args.at c.args.slice.now)) = bytes_take _ _ (bytes_drop _ _ (λ k. (c.type_inv.slice k).fits)) in
    let small : c.loop-byte.v < 256 ^ 7 = few_below _ _ bytes c.loop-byte.invariant (omega (arith, length-take {A = ℕ})) in
    omega (arith, small, bytes c.loop-byte.byte-index)

pub loop-byte-preserved : goal.loop-byte-preserved
loop-byte-preserved c =
    let xs = take (c.args.at + c.args.n - c.args.at) (drop c.args.at c.args.slice.now) in
    rw (c.from.ensures, c.loop-byte.invariant) (sym (number_more xs c.loop-byte.byte-index (omega arith)))

pub returns : goal.returns
returns c =
    let s = drop c.args.at c.args.slice.now in
    c.loop-byte.invariant
    ∙ ap number_in (take_all c.loop-byte.byte-index (take (c.args.at + c.args.n - c.args.at) s) (omega arith))
    ∙ ap (λ (k : ℕ). number_in (take k s)) (omega arith)
