use mathlib.Core.Path.{sym, ap, ◌∙◌}
use Rattle.axis.specs.declared.row.Axis.{Axis}
use Rattle.axis_sound.proofs.SoundLaws.{sampled_gives}
use Rattle.axis_open.proofs.OpenLaws.{sampled_opens}
use Rattle.axis_filter.specs.Lines.{raw_of}
use Rattle.axis_sample.specs.Step.{step_axis}
use Rattle.row_sample.specs.Sample.{packed}
use Rattle.row_sample.proofs.SampleLaws.{row_steps, other_stays}
use Rattle.row_sample.proofs.step_row.Goals as goal

pub step_sampled-requires : goal.step_sampled-requires
step_sampled-requires c =
    let r = c.args.r in
    let g = sampled_opens r _ c.axis_in-axis.ensures (sym c.is_sampled.ensures ∙ c.if-is_sampled.true) in
    rw g.1 (sampled_gives r g.0)

pub returns-then-is_sampled : goal.returns-then-is_sampled
returns-then-is_sampled c =
    let b = c.args in
    let g = sampled_opens b.r _ c.axis_in-axis.ensures (sym c.is_sampled.ensures ∙ c.if-is_sampled.true) in
    c.step_sampled.ensures ∙ ap (λ (a : Axis). packed (step_axis a (raw_of b.nibble))) g.1 ∙ sym (row_steps b.r b.nibble g.0)

pub returns-else-is_sampled : goal.returns-else-is_sampled
returns-else-is_sampled c =
    let b = c.args in
    rw (c.keep.ensures, c.is_broken.ensures)
    (sym (other_stays b.r b.nibble (sym c.is_sampled.ensures ∙ c.if-is_sampled.false)))
