-- The laws of the answers in numbers.
use Rattle.std.specs.Prelude.{Result, Ok, Err, ℕ, ⊤}
use mathlib.Core.Path.{◌≡◌, refl, sym, ap}
use Rattle.refusal.proofs.RefusalLaws.{told_apart, above_zero}
use Rattle.record.specs.Answer.{read_number, read_found, read_saved, tested_number, tested_found}
use Rattle.record.specs.Answer.{written_number, written_found, written_bytes}
use Rattle.refusal.specs.declared.Refusal.{Refusal}
use Rattle.record_axis.specs.declared.saved.Saved.{Saved}

-- The number, the number found and what is said determine what a reading answers.
pub read_told : (a b : Result Saved Refusal) → read_number a ≡ read_number b → read_found a ≡ read_found b → read_saved a ≡ read_saved b → a ≡ b
read_told (Ok s) (Ok t) n f v = ap Ok v
read_told (Ok s) (Err r) n f v = absurd (above_zero r (sym n))
read_told (Err r) (Ok s) n f v = absurd (above_zero r n)
read_told (Err r) (Err q) n f v = ap Err (told_apart r q n f)

-- The number and the number found determine what a test answers.
pub test_told : (a b : Result ⊤ Refusal) → tested_number a ≡ tested_number b → tested_found a ≡ tested_found b → a ≡ b
test_told (Ok _) (Ok _) n f = refl
test_told (Ok _) (Err r) n f = absurd (above_zero r (sym n))
test_told (Err r) (Ok _) n f = absurd (above_zero r n)
test_told (Err r) (Err q) n f = ap Err (told_apart r q n f)

-- The number, the number found and the number of bytes determine what a save answers.
pub save_told : (a b : Result ℕ Refusal) →
    written_number a ≡ written_number b → written_found a ≡ written_found b → written_bytes a ≡ written_bytes b → a ≡ b
save_told (Ok m) (Ok n) _ f v = ap Ok v
save_told (Ok m) (Err r) n f v = absurd (above_zero r (sym n))
save_told (Err r) (Ok m) n f v = absurd (above_zero r n)
save_told (Err r) (Err q) n f v = ap Err (told_apart r q n f)
