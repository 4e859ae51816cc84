-- One outcome for what a call promises to C.
use mathlib.Core.Path.{◌≡◌, sym, ap, ◌∙◌}
use Rattle.host_answers.specs.Shown.{ShownToC}

-- Two outcomes of one call are the same answer and the same words or bytes, since the table's own call has one outcome.
pub one_shown : {D A S : Type 0} {form : D → A} {P Q : D → Type 0} {u v : S} {a b : A} →
    ((d e : D) → P d → Q e → (d ≡ e) × (u ≡ v)) → ShownToC form P a → ShownToC form Q b → (a ≡ b) × (u ≡ v)
one_shown {form = form} law p q =
    let r = law p.said q.said p.claimed q.claimed in (p.answer ∙ ap form r.0 ∙ sym q.answer, r.1)
