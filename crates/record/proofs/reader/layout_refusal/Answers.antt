use mathlib.Core.Path.{sym}
use Rattle.record.specs.Record.{layout_refusal}
use Rattle.record.specs.Tags.{layout_tag}
use Rattle.tagged.proofs.FieldLaws.{field_below}
use Rattle.record.proofs.reader.layout_refusal.Goals as goal

pub returns-in_default : goal.returns-in_default
unfolding layout_refusal
returns-in_default c = rw (sym c.in_default.ensures)

pub overflow_cast-result : goal.overflow_cast-result
overflow_cast-result c = record {
  fits = field_below c.args.slice.now 0 layout_tag 2 (λ k. (c.type_inv.slice k).fits) (sym c.in-Some.ensures);
}

pub returns : goal.returns
unfolding layout_refusal
returns c = rw (sym c.in-Some.ensures)
