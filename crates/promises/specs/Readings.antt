-- The readings of docs/RULES.md that are marked P, in one table: "Readings to hold it against".
use Rattle.std.specs.Prelude.{ℕ, Bool, true, false, List, [], ◌∷◌, ℤ, pos, negsuc, Result, Ok, Err}
use Rattle.position.specs.Position.{position_of}
use Rattle.refusal.specs.declared.Refusal.TheVariants.{Half}
use Rattle.reckon.specs.Widening.{widened}
use Rattle.speed.specs.Speed.{speed_by_count}
use Rattle.fields.specs.Field.{field_of, flag_of}
use Rattle.axis.specs.Kind.{X1, X2, X4}
use Rattle.axis.specs.Row.{row_of, fresh}
use Rattle.axis.specs.declared.row.Row.{Row}
use Rattle.row_sample.specs.Sample.{step_row}
use Rattle.refusal.specs.declared.Refusal.{Refusal}
use Rattle.speed.specs.declared.Quotient.{Quotient}

-- The row that a setup of a kind and a depth makes.
unfoldable pub set_up : ℕ → ℕ → Row
set_up kind depth = row_of (fresh (record { kind = kind; depth = depth; width = 0; turn = 0 }))

-- A row after samples, oldest first.
unfoldable pub sampled_by : Row → List ℕ → Row
sampled_by r [] = r
sampled_by r (n ∷ ns) = sampled_by (step_row r n).row ns

-- What a reading shows: a row's position and doubles, its filtered A and position, what was reckoned, or a speed.
pub data Shown : Type 0 where
  counts : ℤ → ℕ → Shown
  level : Bool → ℤ → Shown
  both : Shown → Shown → Shown
  reckons : Result ℤ Refusal → Shown
  speeds : Result Quotient Refusal → Shown

-- The position and the doubles of a row.
unfoldable pub counted : Row → Shown
counted r = counts (position_of r.w0) (field_of 32 16 r.w1)

-- The filtered A and the position of a row.
unfoldable pub levelled : Row → Shown
levelled r = level (flag_of 19 r.w1) (position_of r.w0)

-- A reading: what the definitions give, and what docs/RULES.md states.
pub record Reading : Type 0 where
  pub gives : Shown
  pub stated : Shown

infix 20 ◌shows◌
unfoldable pub ◌shows◌ : Shown → Shown → Reading
a shows b = record { gives = a; stated = b }

-- The twelve readings, in the order of docs/RULES.md.
unfoldable pub readings : List Reading
readings =
    (counted (sampled_by (set_up X4 1) (0 ∷ 1 ∷ 3 ∷ 2 ∷ 0 ∷ [])) shows counts (pos 4) 0)
    ∷ (counted (sampled_by (set_up X2 1) (0 ∷ 1 ∷ 3 ∷ 2 ∷ 0 ∷ [])) shows counts (pos 2) 0)
    ∷ (counted (sampled_by (set_up X1 1) (0 ∷ 1 ∷ 3 ∷ 2 ∷ 0 ∷ [])) shows counts (pos 1) 0)
    ∷ (counted (sampled_by (set_up X4 1) (0 ∷ 3 ∷ 2 ∷ [])) shows counts (pos 1) 1)
    ∷ (both (levelled (sampled_by (set_up X4 3) (0 ∷ 1 ∷ 1 ∷ 0 ∷ 1 ∷ 1 ∷ 1 ∷ [])))
    (levelled (sampled_by (set_up X4 3) (0 ∷ 1 ∷ 1 ∷ 0 ∷ 1 ∷ 1 ∷ [])))
    shows both (level true (pos 1)) (level false (pos 0)))
    ∷ (reckons (widened 8 (pos 250) 3) shows reckons (Ok (pos 259)))
    ∷ (reckons (widened 8 (pos 250) 121) shows reckons (Ok (pos 377)))
    ∷ (reckons (widened 8 (pos 250) 122) shows reckons (Err Half))
    ∷ (reckons (widened 8 (pos 250) 123) shows reckons (Ok (pos 123)))
    ∷ (reckons (widened 8 (negsuc 0) 0) shows reckons (Ok (pos 0)))
    ∷ (speeds (speed_by_count (pos 1) 3 1) shows speeds (Ok (record { number = pos 333; remainder = pos 1; divisor = 3 })))
    ∷ (speeds (speed_by_count (negsuc 0) 2000 1) shows speeds (Ok (record { number = negsuc 0; remainder = pos 1000; divisor = 2000 })))
    ∷ []
