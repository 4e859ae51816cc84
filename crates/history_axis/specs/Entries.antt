-- The entries of a history h that started from the axis x: docs/RULES.md, "A port sample", Decode.
use Rattle.std.specs.Prelude.{ℕ, ◌+◌, Bool, cond, not, ◌&&◌, List, [], ◌∷◌, ◌++◌, eqb}
use Rattle.std.specs.Bool.{beq}
use Rattle.axis.specs.declared.row.Axis.{Axis}
use Rattle.axis_filter.specs.Lines.{A, B}
use Rattle.axis_decode.specs.Decode.{code, entry, is_e}
use Rattle.axis_decode.specs.declared.Move.{Move}
use Rattle.axis_filter.specs.declared.Raw.{Raw}
use Rattle.history_axis.specs.Acts.{Act, sampled, preset, arm, acknowledge}
use Rattle.history_axis.specs.Levels.{primed_at, level_at}

-- The code of the filtered levels.
unfoldable pub code_at : Axis → List Act → ℕ
code_at x h = code (level_at x A h) (level_at x B h)

-- The mode's entry of the sample s after h, from the code before it to the code after it; none where the sample primes.
unfoldable pub entry_at : Axis → Raw → List Act → List Move
entry_at x s h = cond (primed_at x h) (entry x.config.kind (code_at x h) (code_at x (sampled s ∷ h)) ∷ []) []

-- All entries of a history, newest first.
unfoldable pub entries : Axis → List Act → List Move
entries x [] = []
entries x (sampled s ∷ h) = entry_at x s h ++ entries x h
entries x (preset p ∷ h) = entries x h
entries x (arm ∷ h) = entries x h
entries x (acknowledge ∷ h) = entries x h

-- How many of some entries are E.
unfoldable pub number_of_e : List Move → ℕ
number_of_e [] = 0
number_of_e (m ∷ ms) = number_of_e ms + cond (is_e m) 1 0

-- Whether both filtered lines A and B change at the sample s after h.
unfoldable pub both_change : Axis → Raw → List Act → Bool
both_change x s h =
    not (beq (level_at x A h) (level_at x A (sampled s ∷ h))) && not (beq (level_at x B h) (level_at x B (sampled s ∷ h)))

-- Whether the entry of the sample s after h is E.
unfoldable pub double_at : Axis → Raw → List Act → Bool
double_at x s h = eqb (number_of_e (entry_at x s h)) 1
