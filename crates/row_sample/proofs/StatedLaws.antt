-- What docs/RULES.md states of a sample on a row, "A port sample", computed to its end on rows given as words.
use Prim.Native.Nat.{ℕ, ◌+◌, ◌^◌}
use mathlib.Core.Path.{◌≡◌, refl}
use mathlib.Core.Bool.{Bool, true, false}
use mathlib.Core.List.{[], ◌∷◌, map}
use Rattle.axis.specs.Row.{axis_of}
use Rattle.axis.specs.declared.row.Row.{Row}
use Rattle.axis_sound.specs.Sound.{status_of}
use Rattle.axis_sample.specs.Step.{primed_by, outcome, step_axis}
use Rattle.row_sample.specs.Sample.{packed, step_by, step_row}
use Rattle.row_sample.specs.declared.SteppedRow.{SteppedRow}

-- Four words.
abbrev words : ℕ → ℕ → ℕ → ℕ → Row
words w0 w1 w2 w3 = record { w0 = w0; w1 = w1; w2 = w2; w3 = w3 }

-- A row after a sample, and its bits of the answer: double step, reference edge, broken.
abbrev seen : Row → Bool → Bool → Bool → SteppedRow
seen r double index broken = record { row = r; double = double; index = index; broken = broken }

-- An empty row, a counter's and a broken one stay, and only the broken one sets a bit; a sampled one that waits takes A, B and Z at 1.
pub rows_stated :
    map (λ (r : Row). step_row r 15) (words 0 0 0 0 ∷ words 7 2056 0 0 ∷ words 7 3 0 0 ∷ words 7 52 0 9 ∷ [])
    ≡ seen (words 0 0 0 0) false false false
    ∷ seen (words 7 2056 0 0) false false false
    ∷ seen (words 7 3 0 0) false false true
    ∷ seen (words 7 (52 + 2 ^ 14 + 2 ^ 19 + 2 ^ 20 + 2 ^ 21) 0 9) false false false
    ∷ []
unfolding step_row step_by status_of step_axis outcome primed_by
rows_stated = refl

-- A double step and a reference edge of a sampled axis are those of its row, which is not broken.
pub bits_stated :
    let x = axis_of (words 7 52 0 9) in
    packed (record { axis = x; double = true; index = false }) ≡ seen (words 7 52 0 9) true false false
    × packed (record { axis = x; double = false; index = true }) ≡ seen (words 7 52 0 9) false true false
bits_stated = (refl, refl)
