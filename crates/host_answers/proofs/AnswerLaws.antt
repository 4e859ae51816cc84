-- What C sees tells the answers apart.
use Rattle.std.specs.Prelude.{Result, Ok, Err, ℤ, ℕ, ⊤}
use native.Mathlib.Omega.{arith}
use mathlib.Core.Path.{◌≡◌, refl, ap}
use mathlib.Core.Bool.{Bool, true, false}
use lib.IntN.{nat_abs}
use Rattle.fields.specs.Field.{bit_of}
use Rattle.reckon.proofs.ReckonedLaws.{reckoned_apart}
use Rattle.speed.proofs.SpeedLaws.{speed_told}
use Rattle.record.proofs.AnswerLaws.{test_told, save_told}
use Rattle.row_view.specs.View.{view_value}
use Rattle.row_calls.proofs.AnswerLaws.{done_told}
use Rattle.row_view.proofs.ViewLaws.{view_told_lem}
use Rattle.host_answers.specs.declared.answer.Answer.{Answer}
use Rattle.host_answers.specs.Answer.{answer_to, answer_speed, answer_test, answer_done, answer_written, answer_view}
use Rattle.host_answers.specs.declared.speeds.SpeedAnswer.{SpeedAnswer}
use Rattle.host_answers.specs.declared.view.ViewAnswer.{ViewAnswer}
use Rattle.refusal.specs.declared.Refusal.{Refusal}
use Rattle.speed.specs.declared.Quotient.{Quotient}
use Rattle.row_view.specs.declared.answer.View.{View}

bit_apart : (a b : Bool) → bit_of a ≡ bit_of b → a ≡ b
bit_apart true true e = refl
bit_apart true false e = absurd (omega arith)
bit_apart false true e = absurd (omega arith)
bit_apart false false e = refl

-- Two calculations that look the same to C had the same answer.
pub answer_apart : (a b : Result ℤ Refusal) → answer_to a ≡ answer_to b → a ≡ b
unfolding answer_to
answer_apart a b e =
    reckoned_apart a b (ap (λ (x : Answer). x.refusal) e) (ap (λ (x : Answer). x.found) e) (ap (λ (x : Answer). x.value) e)

-- So had two speeds.
pub speed_apart : (a b : Result Quotient Refusal) → answer_speed a ≡ answer_speed b → a ≡ b
unfolding answer_speed
speed_apart a b e =
    speed_told a b (ap (λ (x : SpeedAnswer). x.refusal) e) (ap (λ (x : SpeedAnswer). x.found) e)
    (λ i. record { number = (e i).number; remainder = (e i).remainder; divisor = (e i).divisor })

-- So had two record tests.
pub test_apart : (a b : Result ⊤ Refusal) → answer_test a ≡ answer_test b → a ≡ b
unfolding answer_test
test_apart a b e = test_told a b (ap (λ (x : Answer). x.refusal) e) (ap (λ (x : Answer). x.found) e)

-- A record test answers as a call that says only that it was done.
pub test_done : (a : Result ⊤ Refusal) → answer_done a ≡ answer_test a
unfolding answer_done answer_test
test_done (Ok _) = refl
test_done (Err e) = refl

-- So had two calls that say only that they were done.
pub done_apart : (a b : Result ⊤ Refusal) → answer_done a ≡ answer_done b → a ≡ b
unfolding answer_done
done_apart a b e = done_told a b (ap (λ (x : Answer). x.refusal) e) (ap (λ (x : Answer). x.found) e)

-- So had two saves.
pub written_apart : (a b : Result ℕ Refusal) → answer_written a ≡ answer_written b → a ≡ b
unfolding answer_written
written_apart a b e =
    save_told a b (ap (λ (x : Answer). x.refusal) e) (ap (λ (x : Answer). x.found) e) (ap (λ (x : Answer). nat_abs x.value) e)

-- So had two views.
pub view_apart : (a b : Result View Refusal) → answer_view a ≡ answer_view b → a ≡ b
unfolding answer_view
view_apart a b e =
    let u = view_value a in
    let v = view_value b in
    view_told_lem a b (ap (λ (x : ViewAnswer). x.refusal) e) (ap (λ (x : ViewAnswer). x.found) e)
    (λ i. record {
      kind = (e i).kind;
      position = (e i).position;
      primed = bit_apart u.primed v.primed (λ j. (e j).primed) i;
      armed = bit_apart u.armed v.armed (λ j. (e j).armed) i;
      homed = bit_apart u.homed v.homed (λ j. (e j).homed) i;
      range = bit_apart u.range v.range (λ j. (e j).range) i;
      index = bit_apart u.index v.index (λ j. (e j).index) i;
      doubles = (e i).doubles;
    })
