-- What each answer shows to C, field by field, computed to its end: docs/RULES.md, "Calls that name one axis" and "Reasons for saying no".
use Rattle.std.specs.Prelude.{Result, Ok, Err}
use Prim.Native.Nat.{ℕ}
use mathlib.Core.Path.{refl}
use mathlib.Core.Bool.{Bool, true, false}
use mathlib.Core.List.{[], ◌∷◌}
use lib.IntN.{ℤ, pos, negsuc}
use Rattle.refusal.specs.declared.Refusal.TheVariants.{Empty, Half, NoPeriod, Room, Layout, Record}
use Rattle.speed.proofs.StatedLaws.{parts}
use Rattle.row_calls.proofs.StatedLaws.{◌is◌, AsStated}
use Rattle.host_answers.specs.Answer.{answer_value, answer_refused, answer_to, answer_speed, answer_test, answer_done, answer_written}
use Rattle.host_answers.specs.Answer.{answer_view}
use Rattle.host_answers.specs.declared.speeds.SpeedAnswer.{SpeedAnswer}
use Rattle.host_answers.specs.declared.answer.Answer.{Answer}
use Rattle.host_answers.specs.declared.view.ViewAnswer.{ViewAnswer}
use Rattle.refusal.specs.declared.Refusal.{Refusal}
use Rattle.row_view.specs.declared.answer.View.{View}

-- An answer of three numbers.
abbrev answer : ℕ → ℕ → ℤ → Answer
answer refusal found value = record { refusal = refusal; found = found; value = value }

-- A refusal shows its number, and LAYOUT the number found; what is done shows 0 and its value, the number reckoned or the number of
-- bytes, and 0 where it has none.
pub answers_stated : AsStated (
    (answer_value (negsuc 4) is answer 0 0 (negsuc 4))
    ∷ (answer_refused (Layout 7) is answer 11 7 (pos 0))
    ∷ (answer_to (Ok (negsuc 4)) is answer 0 0 (negsuc 4))
    ∷ (answer_to (Err Half) is answer 7 0 (pos 0))
    ∷ (answer_to (Err (Layout 9)) is answer 11 9 (pos 0))
    ∷ (answer_test (Ok tt) is answer 0 0 (pos 0))
    ∷ (answer_test (Err Record) is answer 12 0 (pos 0))
    ∷ (answer_test (Err (Layout 9)) is answer 11 9 (pos 0))
    ∷ (answer_done (Ok tt) is answer 0 0 (pos 0))
    ∷ (answer_done (Err Empty) is answer 4 0 (pos 0))
    ∷ (answer_done (Err (Layout 9)) is answer 11 9 (pos 0))
    ∷ (answer_written (Ok 34) is answer 0 0 (pos 34))
    ∷ (answer_written (Err Room) is answer 10 0 (pos 0))
    ∷ (answer_written (Err (Layout 9)) is answer 11 9 (pos 0))
    ∷ [])
unfolding answer_to answer_test answer_done answer_written
answers_stated = refl

-- What a speed shows to C: refusal, found, number, remainder and divisor.
abbrev sped : ℕ → ℕ → ℤ → ℤ → ℕ → SpeedAnswer
sped refusal found number remainder divisor =
    record { refusal = refusal; found = found; number = number; remainder = remainder; divisor = divisor }

-- Number, remainder and divisor each in its own place, and 0 in all three on a refusal.
pub speed_stated : AsStated (
    (answer_speed (Ok (parts (negsuc 332) (pos 1) 3)) is sped 0 0 (negsuc 332) (pos 1) 3)
    ∷ (answer_speed (Ok (parts (pos 7) (negsuc 4) 4294967295)) is sped 0 0 (pos 7) (negsuc 4) 4294967295)
    ∷ (answer_speed (Err NoPeriod) is sped 9 0 (pos 0) (pos 0) 0)
    ∷ (answer_speed (Err (Layout 9)) is sped 11 9 (pos 0) (pos 0) 0)
    ∷ [])
unfolding answer_speed
speed_stated = refl

-- A view of kind 2 at position -5 with 300 doubles and these flags.
abbrev seen : Bool → Bool → Bool → Bool → Bool → Result View Refusal
seen primed armed homed range index = Ok (record {
  kind = 2;
  position = negsuc 4;
  primed = primed;
  armed = armed;
  homed = homed;
  range = range;
  index = index;
  doubles = 300;
})

-- What a view shows to C: refusal, found, position, kind, doubles, and the flags PRIMED, ARMED, HOMED, RANGE and INDEX.
abbrev shown : ℕ → ℕ → ℤ → ℕ → ℕ → ℕ → ℕ → ℕ → ℕ → ℕ → ViewAnswer
shown refusal found position kind doubles primed armed homed range index = record {
  refusal = refusal;
  found = found;
  position = position;
  kind = kind;
  doubles = doubles;
  primed = primed;
  armed = armed;
  homed = homed;
  range = range;
  index = index;
  unused = 0;
}

-- Each flag is shown as 0 or 1 in its own place, and a refusal has 0 in every place but its number and the number found.
pub view_stated : AsStated (
    (answer_view (seen true false false false false) is shown 0 0 (negsuc 4) 2 300 1 0 0 0 0)
    ∷ (answer_view (seen false true false false false) is shown 0 0 (negsuc 4) 2 300 0 1 0 0 0)
    ∷ (answer_view (seen false false true false false) is shown 0 0 (negsuc 4) 2 300 0 0 1 0 0)
    ∷ (answer_view (seen false false false true false) is shown 0 0 (negsuc 4) 2 300 0 0 0 1 0)
    ∷ (answer_view (seen false false false false true) is shown 0 0 (negsuc 4) 2 300 0 0 0 0 1)
    ∷ (answer_view (Err Empty) is shown 4 0 (pos 0) 0 0 0 0 0 0 0)
    ∷ (answer_view (Err (Layout 7)) is shown 11 7 (pos 0) 0 0 0 0 0 0 0)
    ∷ [])
unfolding answer_view
view_stated = refl
