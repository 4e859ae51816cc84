use mathlib.Core.Path.{sym, ◌∙◌}
use native.Mathlib.Omega.{arith}
use Rattle.record_axis.proofs.AxisLaws.{axis_long}
use Rattle.record.proofs.WriterLaws.{outside, no_room, wrote, puts_record}
use Rattle.record_writer.proofs.save.Goals as goal

pub returns-then-not-is_within : goal.returns-then-not-is_within
returns-then-not-is_within c = outside c.args.buf.now c.args.saved (sym c.is_within.ensures ∙ c.if-not-is_within.true)

pub returns-then-buf-axis_length : goal.returns-then-buf-axis_length
returns-then-buf-axis_length c =
    no_room c.args.buf.now c.args.saved (sym c.is_within.ensures ∙ c.if-not-is_within.false)
    (omega (arith, rw c.from.ensures at c.axis_length.ensures, c.if-buf-axis_length.true))

pub put_field-requires : goal.put_field-requires
put_field-requires c =
    let p = c.put_bytes-at in
    let q = c.put_axis-at in
    let n = axis_long c.args.saved in
    omega (arith, rw c.from.ensures at c.axis_length.ensures, c.if-buf-axis_length.false, n, p.auto.out, p.ensures.behind, q.auto.buf, q.ensures.behind)

pub returns : goal.returns
returns c =
    let s = c.args.saved in
    wrote c.args.buf.now s (sym c.is_within.ensures ∙ c.if-not-is_within.false)
    (omega (arith, rw c.from.ensures at c.axis_length.ensures, c.if-buf-axis_length.false))
    (puts_record s c.put_bytes-at.ensures c.put_axis-at.ensures c.put_field.ensures)
