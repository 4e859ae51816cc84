-- What a calculation answers, by number: docs/RULES.md, "Reasons for saying no".
use Rattle.std.specs.Prelude.{ℕ, ℤ, pos, Result, Ok, Err}
use Rattle.refusal.specs.Refusal.{number_of, found_in}
use Rattle.refusal.specs.declared.Refusal.{Refusal}

-- The number of the refusal, 0 where there is none.
abbrev pub refusal_in : Result ℤ Refusal → ℕ
refusal_in (Ok v) = 0
refusal_in (Err e) = number_of e

-- The layout number that the refusal carries, 0 where it carries none.
abbrev pub found_by : Result ℤ Refusal → ℕ
found_by (Ok v) = 0
found_by (Err e) = found_in e

-- The number reckoned, 0 on a refusal.
abbrev pub value_in : Result ℤ Refusal → ℤ
value_in (Ok v) = v
value_in (Err e) = pos 0
