use mathlib.Core.Path.{sym, ◌∙◌}
use mathlib.Core.Bool.{and-false, true≢false}
use Rattle.axis_sound.proofs.PassLaws.{sampled_by_lem}
use Rattle.axis_sound.proofs.is_sampled.Goals.{then-is_formed, else-is_formed, then-is_paced, else-is_paced}
use Rattle.axis_sound.proofs.is_sampled.Goals as goal

pub returns-then-is_indexed : goal.returns-then-is_indexed
returns-then-is_indexed c =
    let passes = c.if-is_indexed.true in
    let law = sampled_by_lem c.args.r c.args.a c.requires in
    c.is_ready.ensures ∙ elim c.if-is_paced.branch [
      | then-is_paced w ↦ elim c.if-is_formed.branch [
        | then-is_formed v ↦ rw (
          sym c.is_formed.ensures ∙ v.if-is_formed.true,
          sym v.is_paced.ensures ∙ sym v.value-is ∙ w.if-is_paced.true,
          sym w.is_indexed.ensures ∙ sym w.value-is ∙ passes,
        ) at law
        | else-is_formed v ↦ absurd (true≢false (sym w.if-is_paced.true ∙ v.value-is ∙ v.if-is_formed.false))
      ]
      | else-is_paced w ↦ absurd (true≢false (sym passes ∙ w.value-is ∙ w.if-is_paced.false))
    ]

pub returns-else-is_indexed : goal.returns-else-is_indexed
returns-else-is_indexed c =
    let fails = c.if-is_indexed.false in
    let law = sampled_by_lem c.args.r c.args.a c.requires in
    fails ∙ elim c.if-is_paced.branch [
      | then-is_paced w ↦ rw (sym w.is_indexed.ensures ∙ sym w.value-is ∙ fails, and-false) at law
      | else-is_paced w ↦ elim c.if-is_formed.branch [
        | then-is_formed v ↦ rw (sym v.is_paced.ensures ∙ sym v.value-is ∙ w.if-is_paced.false, and-false) at law
        | else-is_formed v ↦ rw (sym c.is_formed.ensures ∙ v.if-is_formed.false) at law
      ]
    ]
