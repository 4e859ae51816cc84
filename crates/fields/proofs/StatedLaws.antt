-- What docs/RULES.md states, computed to its end: "One row, four words", on word 1 of its setup reading.
use mathlib.Core.Path.{◌≡◌, refl}
use mathlib.Core.Bool.{true, false}
use mathlib.Core.List.{[], ◌∷◌, map}
use Prim.Native.Nat.{ℕ}
use Rattle.fields.specs.Field.{flag_of, bit_of}
use Rattle.fields.specs.Layout.{split, join, total}

-- Of the word 52, bits 0 to 3 are 4, bits 4 to 7 are 3 and bits 8 to 13 are 0, and those fourteen bits make it up again.
pub setup_fields :
    (split 0 (4 ∷ 4 ∷ 6 ∷ []) 52 ≡ 4 ∷ 3 ∷ 0 ∷ []) × (join 0 (4 ∷ 4 ∷ 6 ∷ []) (4 ∷ 3 ∷ 0 ∷ []) ≡ 52) × (total (4 ∷ 4 ∷ 6 ∷ []) ≡ 14)
setup_fields = (refl, refl, refl)

-- Of its lowest eight bits, bits 2, 4 and 5 are set; a clear bit is 0 and a set one 1.
pub setup_bits :
    (map (λ (at : ℕ). flag_of at 52) (0 ∷ 1 ∷ 2 ∷ 3 ∷ 4 ∷ 5 ∷ 6 ∷ 7 ∷ [])
    ≡ false ∷ false ∷ true ∷ false ∷ true ∷ true ∷ false ∷ false ∷ [])
    × (map bit_of (false ∷ true ∷ []) ≡ 0 ∷ 1 ∷ [])
setup_bits = (refl, refl)
