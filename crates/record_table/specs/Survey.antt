-- What a reader keeps of a record that it accepts: docs/RULES.md, "The record of a whole table".
use Rattle.std.specs.Prelude.{List, [], ◌∷◌, ℕ, suc, length, Result, Ok, Err}
use Rattle.record_entry.specs.declared.entry.Entry.{Entry}
use Rattle.refusal.specs.declared.Refusal.{Refusal}

-- The first number above those of ascending axes, a number given where there is none.
unfoldable pub bound_of : ℕ → List Entry → ℕ
bound_of least [] = least
bound_of least (e ∷ es) = bound_of (suc e.axis) es

-- How many axes a record says, and the first number above all of theirs.
abbrev pub survey_of : Result (List Entry) Refusal → Result (ℕ × ℕ) Refusal
survey_of (Ok es) = Ok (length es, bound_of 0 es)
survey_of (Err r) = Err r
