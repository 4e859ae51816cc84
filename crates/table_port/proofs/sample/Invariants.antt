use Prim.Native.Nat.{ℕ}
use mathlib.Core.Path.{◌≡◌}
use mathlib.Core.List.{List}
use Rattle.table_port.specs.Port.{nibble, sampled_to, masks_to}
use Rattle.table_port.specs.declared.Masks.{Masks}
use Rattle.table_port.proofs.sample.Given as goal

pub record Reached (t₀ : List ℕ) (port : ℕ) (t : List ℕ) (m : Masks) (k : ℕ) : Type 0 where
  pub table : t ≡ sampled_to k t₀ (nibble port)
  pub masks : m ≡ masks_to k t₀ (nibble port)

abbrev pub invariant-loop-k : goal.invariant-loop-k
invariant-loop-k l = Reached l.initial.table l.port l.table l.masks l.k
