use mathlib.Core.Path.{◌≡◌, sym, ap, refl, ◌∙◌}
use mathlib.Core.List.{[], ◌∷◌}
use borrow.Author.Rules.{rules}
use Rattle.std.proofs.lemmas.Fn.{fold_over, slice_gives, fronts}
use Rattle.trace_axis.specs.Trace.{fed_with}
use Rattle.trace_axis.proofs.TraceLaws.{fed_none, cut}
use Rattle.trace_axis.proofs.trace.Trace.fed.Goals as goal

pub returns : goal.returns
returns c =
    let x = c.args.self in
    fold_over fronts (λ y. y.now) _ (λ bs t. t ≡ fed_with x bs) _
    (λ bs t y u f' j k. let e : u ≡ fed_with t (y.now ∷ []) = search rules in (rw (e, j, cut), refl))
    _ _ _ _ (slice_gives _) (sym (fed_none x)) c.fold.ensures.ran
    ∙ ap (fed_with x) c.iter.ensures.rest
