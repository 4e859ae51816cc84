-- What a call answers that passes on the refusal of another.
use Rattle.std.specs.Prelude.{Result, Ok, Err, IsErrAnd}
use mathlib.Core.Path.{◌≡◌, ap, ◌∙◌}
use Rattle.refusal.specs.declared.Refusal.{Refusal}

-- The refusal that is passed on is the other's own.
pub passed_on : {T : Type 0} {r s : Result T Refusal} {e : Refusal} → IsErrAnd r (λ d. d ≡ e) → Err e ≡ s → r ≡ s
passed_on {r = Ok x} h k = absurd h
passed_on {r = Err d} h k = ap Err h ∙ k
