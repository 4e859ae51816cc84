-- What docs/RULES.md states of a sample's lines, "A port sample", computed to its end.
use Prim.Native.Nat.{ℕ}
use mathlib.Core.Path.{◌≡◌, refl}
use mathlib.Core.Bool.{Bool, true, false}
use mathlib.Core.List.{[], ◌∷◌, map}
use Rattle.axis_filter.specs.Lines.{A, B, Z, raw_of, level_of, three}
use Rattle.axis_filter.specs.Filter.{filter_line, filter_lines}
use Rattle.axis_filter.specs.declared.Line.{Line}

-- Bit 0 of a sample is A, bit 1 is B, bit 2 is Z, and the fourth is none of them.
pub raw_stated :
    let x = true in
    let o = false in
    map (λ (nibble : ℕ). map (level_of (raw_of nibble)) (A ∷ B ∷ Z ∷ [])) (0 ∷ 1 ∷ 2 ∷ 4 ∷ 8 ∷ 7 ∷ [])
    ≡ (o ∷ o ∷ o ∷ []) ∷ (x ∷ o ∷ o ∷ []) ∷ (o ∷ x ∷ o ∷ []) ∷ (o ∷ o ∷ x ∷ []) ∷ (o ∷ o ∷ o ∷ []) ∷ (x ∷ x ∷ x ∷ []) ∷ []
unfolding level_of
raw_stated = refl

-- A line by its level and its run.
abbrev at : Bool → ℕ → Line
at level run = record { level = level; run = run }

-- At depth 3, on a sample of A and Z: A's third such sample in a row flips it, B's ends its run, Z's second makes its run 2.
pub filter_stated :
    map (three (filter_lines 3 (record { a = at false 2; b = at false 2; z = at false 1 }) (raw_of 5))) (A ∷ B ∷ Z ∷ [])
    ≡ at true 0 ∷ at false 0 ∷ at false 2 ∷ []
unfolding filter_line three
filter_stated = refl
