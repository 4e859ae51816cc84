-- What docs/RULES.md states of a view, computed to its end from four words: "One row, four words", "Calls that name one axis".
use Rattle.std.specs.Prelude.{Ok, Err}
use Prim.Native.Nat.{ℕ, ◌+◌, ◌-◌, ◌^◌}
use mathlib.Core.Path.{refl}
use mathlib.Core.Bool.{Bool, true, false}
use mathlib.Core.List.{[], ◌∷◌}
use lib.IntN.{ℤ, pos, negsuc}
use Rattle.position.specs.Position.{position_of}
use Rattle.refusal.specs.declared.Refusal.TheVariants.{Broken, Empty, Layout}
use Rattle.axis_sound.specs.Sound.{status_of}
use Rattle.row_calls.proofs.StatedLaws.{◌is◌, AsStated, words, PRIMED, ARMED, HOMED, RANGE, INDEX, busy, idle, counter, empty, broken}
use Rattle.row_view.specs.View.{view_row, view_number, view_found, view_value}
use Rattle.row_view.specs.declared.answer.View.{View}

-- A view: kind, position, PRIMED, ARMED, HOMED, RANGE, INDEX and doubles.
abbrev view : ℕ → ℤ → Bool → Bool → Bool → Bool → Bool → ℕ → View
view k p primed armed homed range index n = record {
  kind = k;
  position = p;
  primed = primed;
  armed = armed;
  homed = homed;
  range = range;
  index = index;
  doubles = n;
}

-- A view shows each flag by its own bit, kind, position and doubles; flags and doubles are 0 for a counter; an empty row is EMPTY and a
-- broken one BROKEN.
pub view_stated : AsStated (
    (view_row (busy (2 ^ 62 + 5) PRIMED 300) is Ok (view 2 (pos 5) true false false false false 300))
    ∷ (view_row (idle (2 ^ 62) ARMED) is Ok (view 1 (pos 0) false true false false false 0))
    ∷ (view_row (busy (2 ^ 62 - 5) (PRIMED + HOMED) 65535) is Ok (view 2 (negsuc 4) true false true false false 65535))
    ∷ (view_row (busy 1 (PRIMED + RANGE) 1) is Ok (view 2 (negsuc (2 ^ 62 - 2)) true false false true false 1))
    ∷ (view_row (busy (2 ^ 63 - 1) (PRIMED + INDEX) 0) is Ok (view 2 (pos (2 ^ 62 - 1)) true false false false true 0))
    ∷ (view_row (words (2 ^ 62) 52 0 4096) is Ok (view 4 (pos 0) false false false false false 0))
    ∷ (view_row (counter (2 ^ 62 - 1)) is Ok (view 8 (negsuc 0) false false false false false 0))
    ∷ (view_row empty is Err Empty)
    ∷ (view_row broken is Err Broken)
    ∷ [])
unfolding position_of status_of view_row
view_stated = refl

-- A view's number is 0, and a refusal's its own; LAYOUT carries the number found.
pub number_stated : AsStated (
    (view_number (Ok (view 2 (pos 5) true true true true true 300)) is 0)
    ∷ (view_found (Ok (view 2 (pos 5) true true true true true 300)) is 0)
    ∷ (view_number (Err Empty) is 4)
    ∷ (view_found (Err Empty) is 0)
    ∷ (view_number (Err (Layout 7)) is 11)
    ∷ (view_found (Err (Layout 7)) is 7)
    ∷ [])
number_stated = refl

-- A refusal has no other value: all are 0.
pub value_stated : AsStated (
    (view_value (Ok (view 2 (pos 5) true false true false true 300)) is view 2 (pos 5) true false true false true 300)
    ∷ (view_value (Err Empty) is view 0 (pos 0) false false false false false 0)
    ∷ [])
value_stated = refl
