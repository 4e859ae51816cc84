-- What docs/RULES.md states of a port word and of the answer, "A port sample", computed to its end.
use Rattle.std.specs.Prelude.{Ok, Err}
use Prim.Native.Nat.{ℕ}
use mathlib.Core.Path.{◌≡◌, refl}
use mathlib.Core.Bool.{Bool, true, false}
use mathlib.Core.List.{[], ◌∷◌, map}
use Rattle.refusal.specs.declared.Refusal.TheVariants.{Length}
use Rattle.axis.specs.Row.{empty_row}
use Rattle.row_sample.specs.declared.SteppedRow.{SteppedRow}
use Rattle.table_port.specs.Port.{nibble, put_bit, noted, sampled_number, sampled_found, sampled_masks}
use Rattle.table_port.specs.declared.Masks.{Masks}

-- Axis k owns bits 4k to 4k + 3: the port word FEDCBA9876543210 gives axis k the four bits of k, and no axis more.
pub port_stated :
    map (nibble 18364758544493064720) (0 ∷ 1 ∷ 2 ∷ 3 ∷ 4 ∷ 5 ∷ 6 ∷ 7 ∷ 8 ∷ 9 ∷ 10 ∷ 11 ∷ 12 ∷ 13 ∷ 14 ∷ 15 ∷ 16 ∷ [])
    ≡ 0 ∷ 1 ∷ 2 ∷ 3 ∷ 4 ∷ 5 ∷ 6 ∷ 7 ∷ 8 ∷ 9 ∷ 10 ∷ 11 ∷ 12 ∷ 13 ∷ 14 ∷ 15 ∷ 0 ∷ []
unfolding nibble
port_stated = refl

-- The three masks: doubles, reference edges, broken rows.
abbrev masks : ℕ → ℕ → ℕ → Masks
masks doubles index broken = record { doubles = doubles; index = index; broken = broken }

-- A row's bits of the answer.
abbrev bits : Bool → Bool → Bool → SteppedRow
bits double index broken = record { row = empty_row; double = double; index = index; broken = broken }

-- Axis 3's double step, reference edge and broken row each set bit 3 of the mask of that name, and leave the bits below.
pub masks_stated :
    map (noted (masks 1 2 4) 3) (bits true false false ∷ bits false true false ∷ bits false false true ∷ bits false false false ∷ [])
    ≡ masks 9 2 4 ∷ masks 1 10 4 ∷ masks 1 2 12 ∷ masks 1 2 4 ∷ []
unfolding noted put_bit
masks_stated = refl

-- A sample that was not refused answers number 0 and its masks; one that was, 1 for LENGTH, and no mask.
pub answers_stated :
    let seen = Ok (masks 1 2 4) in
    let refused = Err Length in
    (sampled_number seen ≡ 0) × (sampled_found seen ≡ 0) × (sampled_masks seen ≡ masks 1 2 4)
    × (sampled_number refused ≡ 1) × (sampled_found refused ≡ 0) × (sampled_masks refused ≡ masks 0 0 0)
answers_stated = (refl, refl, refl, refl, refl, refl)
