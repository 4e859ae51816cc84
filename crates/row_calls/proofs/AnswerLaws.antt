-- The law of the answers: their numbers tell them apart.
use Rattle.std.specs.Prelude.{Result, Ok, Err, ⊤}
use mathlib.Core.Path.{◌≡◌, refl, sym, ap}
use Rattle.refusal.proofs.RefusalLaws.{told_apart, above_zero}
use Rattle.row_calls.specs.Answer.{done_number, done_found}
use Rattle.refusal.specs.declared.Refusal.{Refusal}

-- Two answers of a call that only says that it was done, with one number and one found number, are one answer.
pub done_told : (a b : Result ⊤ Refusal) → done_number a ≡ done_number b → done_found a ≡ done_found b → a ≡ b
done_told (Ok _) (Ok _) n f = refl
done_told (Ok _) (Err e) n f = absurd (above_zero e (sym n))
done_told (Err e) (Ok _) n f = absurd (above_zero e n)
done_told (Err e) (Err d) n f = ap Err (told_apart e d n f)
