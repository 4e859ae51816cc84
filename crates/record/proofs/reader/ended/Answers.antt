use Rattle.std.specs.Prelude.{Ok}
use mathlib.Core.Path.{◌≡◌, sym, ap, ◌∙◌}
use borrow.Author.Tests.{eq-eqb, ne_eqb}
use Prim.Native.Nat.{ℕ}
use lib.IntN.{ℤ}
use lib.ListN.{length}
use mir.Syntax.{w64}
use mir.Val.{Fits, to_z, of_z}
use mir.Facts.{sfits_to_z}
use Rattle.integers.proofs.Machine.{back}
use Rattle.record.specs.Record.{ended_at}
use Rattle.record.proofs.reader.ended.Goals as goal

placed : {bits : ℕ} {z : ℤ} → Fits w64 bits → z ≡ to_z w64 bits → to_z w64 (of_z w64 z) ≡ to_z w64 bits
placed f e = rw e (back (sfits_to_z {w = w64} f))

pub returns-in_default : goal.returns-in_default
unfolding ended_at
returns-in_default c = rw (sym c.in_default.ensures)

pub returns-then-slice-at : goal.returns-then-slice-at
unfolding ended_at
returns-then-slice-at c = rw (sym c.in-Some.ensures, ne_eqb (length c.args.slice.now) c.in-Some.at c.if-slice-at.true)

pub returns-then-not-is_within : goal.returns-then-not-is_within
unfolding ended_at
returns-then-not-is_within c =
    let k = rw (placed c.ranges.bits c.of_bits.ensures) at c.is_within.ensures in
    rw
    (sym c.in-Some.ensures, eq-eqb (length c.args.slice.now) c.in-Some.at c.if-slice-at.false, sym k ∙ c.if-not-is_within.true)

pub returns : goal.returns
unfolding ended_at
returns c =
    let p = placed c.ranges.bits c.of_bits.ensures in
    let k = rw p at c.is_within.ensures in
    rw
    (sym c.in-Some.ensures, eq-eqb (length c.args.slice.now) c.in-Some.at c.if-slice-at.false, sym k ∙ c.if-not-is_within.false)
    (ap (λ (z : ℤ). Ok (record { config = c.args.config; position = z })) p)
