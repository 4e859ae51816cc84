use mathlib.Core.Path.{◌≡◌, sym, ap, ◌∙◌}
use native.Mathlib.Omega.{arith}
use mir.Syntax.{w64}
use mir.Val.{SFits, of_z}
use Rattle.integers.proofs.Machine.{back}
use Rattle.tagged.specs.Bytes.{bytes_of}
use Rattle.tagged.specs.Field.{field_bytes}
use Rattle.record_axis.specs.AxisFields.{front_bytes, axis_length}
use Rattle.record_axis.proofs.AxisLaws.{length_bounds}
use Rattle.record.proofs.WriterLaws.{puts_counter, puts_sampled}
use borrow.Author.Rules.{rules}
use Rattle.record_writer.proofs.put_axis.Goals as goal

pub put_field-requires : goal.put_field-requires
unfolding front_bytes field_bytes bytes_of
put_field-requires c =
    let p = c.put_front-at in
    omega (arith, p.auto.buf, p.ensures.behind, c.requires, length_bounds c.args.saved.config.kind)

pub returns-then-is_counter : goal.returns-then-is_counter
returns-then-is_counter c =
    let e = c.from-setting.ensures in
    let f : SFits w64 c.args.saved.position = search rules in
    puts_counter c.args.saved (c.bits_of.ensures ∙ ap (of_z w64) (back f)) (sym (rw e at c.is_counter.ensures) ∙ c.if-is_counter.true)
    (rw e at c.put_front-at.ensures) (rw e at c.put_field.ensures)

pub put_field-at-requires : goal.put_field-at-requires
unfolding front_bytes field_bytes bytes_of
put_field-at-requires c =
    let p = c.put_front-at in
    omega (arith, p.auto.buf, p.ensures.behind, c.requires, length_bounds c.args.saved.config.kind)

pub put_field-requires-else-is_counter : goal.put_field-requires-else-is_counter
unfolding front_bytes field_bytes bytes_of
put_field-requires-else-is_counter c =
    let p = c.put_front-at in
    let q = c.put_field-at in
    let e = sym c.is_counter.ensures ∙ c.if-is_counter.false in
    let n : axis_length c.args.saved.config.kind ≡ 26 = rw (rw c.from-setting.ensures at e) in
    omega (arith, n, c.requires, p.auto.buf, p.ensures.behind, q.auto.buf, q.ensures.behind)

pub returns-else-is_counter : goal.returns-else-is_counter
returns-else-is_counter c =
    let e = c.from-setting.ensures in
    let f : SFits w64 c.args.saved.position = search rules in
    puts_sampled c.args.saved (c.bits_of.ensures ∙ ap (of_z w64) (back f)) (sym (rw e at c.is_counter.ensures) ∙ c.if-is_counter.false)
    (rw e at c.put_front-at.ensures) (rw e at c.put_field-at.ensures) (rw e at c.put_field-else-is_counter.ensures)
