-- One outcome for each export that makes another row.
use Rattle.std.specs.Prelude.{Result}
use mathlib.Core.Path.{◌≡◌}
use mathlib.Core.List.{List}
use Prim.Native.Nat.{ℕ}
use Rattle.axis.specs.declared.row.Row.{Row}
use Rattle.table_change.proofs.OutcomeLaws.{makes_one}
use Rattle.host_answers.specs.declared.answer.Answer.{Answer}
use Rattle.host_answers.proofs.ShownLaws.{one_shown}
use Rattle.host_change.specs.Making.{MakesToC}
use Rattle.refusal.specs.declared.Refusal.{Refusal}

-- ubrenchip_setup, ubrenchip_erase, ubrenchip_preset, ubrenchip_arm, ubrenchip_acknowledge and ubrenchip_restore, each by its rule
pub made_one : (rule : Row → Result Row Refusal) (t : List ℕ) (k : ℕ) {u v : List ℕ} {a b : Answer} →
    MakesToC rule t k u a → MakesToC rule t k v b → (a ≡ b) × (u ≡ v)
made_one rule t k = one_shown (λ d e. makes_one rule t k)
