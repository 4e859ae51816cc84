-- Each export admits one outcome.
use Rattle.std.specs.Prelude.{Result, ℤ}
use mathlib.Core.Path.{◌≡◌}
use mathlib.Core.List.{List}
use Prim.Native.Nat.{ℕ}
use Rattle.refusal.proofs.OutcomeLaws.{one}
use Rattle.record.specs.Record.{tested_as}
use Rattle.host_answers.specs.Answer.{answer_to, answer_speed, answer_test}
use Rattle.host_answers.specs.declared.answer.Answer.{Answer}
use Rattle.host_answers.specs.declared.speeds.SpeedAnswer.{SpeedAnswer}
use Rattle.refusal.specs.declared.Refusal.{Refusal}
use Rattle.speed.specs.declared.Quotient.{Quotient}

-- What `ubrenchip_widen` answers.
pub host_reckoned_one : (a : Result ℤ Refusal) (r s : Answer) → r ≡ answer_to a → s ≡ answer_to a → r ≡ s
host_reckoned_one a r s = one

-- What `ubrenchip_speed_by_count` answers.
pub host_speed_one : (a : Result Quotient Refusal) (r s : SpeedAnswer) → r ≡ answer_speed a → s ≡ answer_speed a → r ≡ s
host_speed_one a r s = one

-- What `ubrenchip_test_record` answers.
pub host_test_one : (slice : List ℕ) (r s : Answer) → r ≡ answer_test (tested_as slice) → s ≡ answer_test (tested_as slice) → r ≡ s
host_test_one slice r s = one
