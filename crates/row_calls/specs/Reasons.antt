-- When a call that asks for an axis in the row answers BROKEN, EMPTY and KIND: docs/RULES.md, "Reasons for saying no".
use Rattle.std.specs.Prelude.{ℕ, ◌≡◌, ◌↔◌}
use Rattle.refusal.specs.Refusal.{number_of}
use Rattle.refusal.specs.declared.Refusal.TheVariants.{Broken as BROKEN, Empty as EMPTY, Kind as KIND, Occupied as OCCUPIED}
use Rattle.axis_sound.specs.declared.Status.{Status}
use Rattle.axis_sound.specs.declared.Status.TheVariants.{Empty, Broken}

-- The number n of an answer about a row of status s tells each of the three reasons exactly: a broken row, an empty one, and one of the
-- wrong kind; and it is never OCCUPIED.
pub record StatusReasons (n : ℕ) (s : Status) (wrong : Type 0) : Type 0 where
  pub broken : (n ≡ number_of BROKEN) ↔ (s ≡ Broken)
  pub empty : (n ≡ number_of EMPTY) ↔ (s ≡ Empty)
  pub kind : (n ≡ number_of KIND) ↔ wrong
  pub unoccupied : n ≡ number_of OCCUPIED → ⊥
