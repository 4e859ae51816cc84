-- The law of one outcome, which every public call cites.
use mathlib.Core.Path.{◌≡◌, sym, ◌∙◌}

-- A claim that says what an answer, or what is lent, is afterwards admits one outcome.
pub one : {A : Type 0} {x a b : A} → a ≡ x → b ≡ x → a ≡ b
one p q = p ∙ sym q
