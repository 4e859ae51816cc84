-- What the calls answer to C: docs/RULES.md, "Calls that name one axis" and "Reasons for saying no".
use Rattle.std.specs.Prelude.{ℤ, pos, Result, ℕ, ⊤}
use Rattle.refusal.specs.Refusal.{number_of, found_in}
use Rattle.refusal.specs.declared.Refusal.{Refusal}
use Rattle.fields.specs.Field.{bit_of}
use Rattle.reckon.specs.Reckoned.{refusal_in, found_by, value_in}
use Rattle.speed.specs.Speed.{speed_refusal, speed_found, quotient_in}
use Rattle.record.specs.Answer.{tested_number, tested_found, written_number, written_found, written_bytes}
use Rattle.row_calls.specs.Answer.{done_number, done_found}
use Rattle.row_view.specs.View.{view_number, view_found, view_value}
use Rattle.host_answers.specs.declared.answer.Answer.{Answer}
use Rattle.host_answers.specs.declared.speeds.SpeedAnswer.{SpeedAnswer}
use Rattle.host_answers.specs.declared.view.ViewAnswer.{ViewAnswer}
use Rattle.speed.specs.declared.Quotient.{Quotient}
use Rattle.row_view.specs.declared.answer.View.{View}

-- The value of a call that was done.
abbrev pub answer_value : ℤ → Answer
answer_value v = record { refusal = 0; found = 0; value = v }

-- The number and found number of a refusal, which has no value.
abbrev pub answer_refused : Refusal → Answer
answer_refused e = record { refusal = number_of e; found = found_in e; value = pos 0 }

-- The number, found number and value of a calculation's answer.
unfoldable pub answer_to : Result ℤ Refusal → Answer
answer_to a = record { refusal = refusal_in a; found = found_by a; value = value_in a }

-- The number and found number of a speed's answer, and its number, remainder and divisor.
unfoldable pub answer_speed : Result Quotient Refusal → SpeedAnswer
answer_speed a = record {
  refusal = speed_refusal a;
  found = speed_found a;
  number = (quotient_in a).number;
  remainder = (quotient_in a).remainder;
  divisor = (quotient_in a).divisor;
}

-- The number and found number of a record test's answer, which has no value.
unfoldable pub answer_test : Result ⊤ Refusal → Answer
answer_test a = record { refusal = tested_number a; found = tested_found a; value = pos 0 }

-- The number and found number of a call that says only that it was done.
unfoldable pub answer_done : Result ⊤ Refusal → Answer
answer_done a = record { refusal = done_number a; found = done_found a; value = pos 0 }

-- The number, found number and number of bytes of a save's answer.
unfoldable pub answer_written : Result ℕ Refusal → Answer
answer_written a = record { refusal = written_number a; found = written_found a; value = pos (written_bytes a) }

-- The number, found number and values of a view's answer, each flag as 0 or 1.
unfoldable pub answer_view : Result View Refusal → ViewAnswer
answer_view a = record {
  refusal = view_number a;
  found = view_found a;
  position = (view_value a).position;
  kind = (view_value a).kind;
  doubles = (view_value a).doubles;
  primed = bit_of (view_value a).primed;
  armed = bit_of (view_value a).armed;
  homed = bit_of (view_value a).homed;
  range = bit_of (view_value a).range;
  index = bit_of (view_value a).index;
  unused = 0;
}
