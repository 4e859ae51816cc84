-- The filter in terms of history: docs/RULES.md, "A port sample", Filter. Raw samples have the newest first.
use Rattle.std.specs.Prelude.{ℕ, suc, Bool, cond, List, [], ◌∷◌, leb}
use Rattle.std.specs.Bool.{beq}

-- How many of the newest samples are v, without a break.
unfoldable pub streak : Bool → List Bool → ℕ
streak v [] = 0
streak v (x ∷ h) = cond (beq x v) (suc (streak v h)) 0

-- The level of the latest d consecutive equal samples, or v if there were none.
unfoldable pub latest : ℕ → Bool → List Bool → Bool
latest d v [] = v
latest d v (x ∷ h) = cond (leb d (streak x (x ∷ h))) x (latest d v h)
