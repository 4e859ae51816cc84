-- The laws of a port sample's answer: its numbers and masks tell it apart.
use Rattle.std.specs.Prelude.{Result, Ok, Err}
use mathlib.Core.Path.{◌≡◌, sym, ap}
use Rattle.refusal.proofs.RefusalLaws.{told_apart, above_zero}
use Rattle.table_port.specs.Port.{sampled_number, sampled_found, sampled_masks}
use Rattle.refusal.specs.declared.Refusal.{Refusal}
use Rattle.table_port.specs.declared.Masks.{Masks}

-- The number, the number found and the masks determine what a port sample answers.
pub sample_told : (a b : Result Masks Refusal) →
    sampled_number a ≡ sampled_number b → sampled_found a ≡ sampled_found b → sampled_masks a ≡ sampled_masks b → a ≡ b
sample_told (Ok m) (Ok l) n f e = ap Ok e
sample_told (Ok m) (Err r) n f e = absurd (above_zero r (sym n))
sample_told (Err r) (Ok m) n f e = absurd (above_zero r n)
sample_told (Err r) (Err q) n f e = ap Err (told_apart r q n f)
