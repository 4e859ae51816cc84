-- What docs/RULES.md states, computed to its end: "Calls that name one axis", Reading, and "Reasons for saying no".
use Rattle.std.specs.Prelude.{Ok, Err}
use mathlib.Core.Path.{◌≡◌, refl}
use mathlib.Core.Bool.{true}
use mathlib.Core.List.{[], ◌∷◌, map}
use Prim.Native.Nat.{ℕ, ◌-◌, ◌^◌, ◌≤◌}
use borrow.Author.Tests.{le-leb}
use lib.IntN.{ℤ, pos, negsuc}
use Rattle.integers.specs.Integer.{mod_z}
use Rattle.integers.proofs.NumberLaws.{between}
use Rattle.position.specs.Position.{in_range}
use Rattle.refusal.specs.declared.Refusal.TheVariants.{Half, Layout}
use Rattle.reckon.specs.Reckoned.{refusal_in, found_by, value_in}
use Rattle.reckon.specs.Widening.{good_width, good_reading, or_range, nearest_to, widened}

-- A counter has a width of 2 to 32, and of no other number.
pub widths : (w : ℕ) → (good_width w ≡ true → (2 ≤ w) × (w ≤ 32)) × ((2 ≤ w) × (w ≤ 32) → good_width w ≡ true)
widths w = (between 2 32 w, λ h. rw (le-leb 2 w h.0, le-leb w 32 h.1))

-- A number shows the refusal 0; a refusal shows its own number, the layout number that it found, and the value 0.
pub shown : (v : ℤ) (n : ℕ) →
    (map refusal_in (Ok v ∷ Err Half ∷ Err (Layout n) ∷ []) ≡ 0 ∷ 7 ∷ 11 ∷ [])
    × (map found_by (Ok v ∷ Err Half ∷ Err (Layout n) ∷ []) ≡ 0 ∷ 0 ∷ n ∷ [])
    × (map value_in (Ok v ∷ Err Half ∷ Err (Layout n) ∷ []) ≡ v ∷ pos 0 ∷ pos 0 ∷ [])
shown v n = (refl, refl, refl)

-- At width 8: from 250, 256 is VALUE and 122 HALF; from the last position, 127 is HALF and 0 RANGE; from the first, 0 is RANGE and 2 a
-- step.
pub refusals :
    map refusal_in (
    widened 8 (pos 250) 256
    ∷ widened 8 (pos 250) 122
    ∷ widened 8 (pos (2 ^ 62 - 1)) 127
    ∷ widened 8 (pos (2 ^ 62 - 1)) 0
    ∷ widened 8 (negsuc (2 ^ 62 - 2)) 0
    ∷ widened 8 (negsuc (2 ^ 62 - 2)) 2
    ∷ [])
    ≡ 6 ∷ 7 ∷ 7 ∷ 8 ∷ 8 ∷ 0 ∷ []
unfolding mod_z in_range good_reading or_range nearest_to widened
refusals = refl
