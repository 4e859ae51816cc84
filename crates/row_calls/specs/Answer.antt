-- What the calls answer, by number: docs/RULES.md, "Calls that name one axis" and "Reasons for saying no".
use Rattle.std.specs.Prelude.{ℕ, Result, Ok, Err, ⊤}
use Rattle.refusal.specs.Refusal.{number_of, found_in}
use Rattle.refusal.specs.declared.Refusal.{Refusal}
use Rattle.axis.specs.declared.row.Row.{Row}

-- A call that answers only that it was done.
abbrev pub done_of : Result Row Refusal → Result ⊤ Refusal
done_of (Ok r) = Ok tt
done_of (Err e) = Err e

-- The number of the refusal of such a call, 0 for done.
abbrev pub done_number : Result ⊤ Refusal → ℕ
done_number (Ok _) = 0
done_number (Err e) = number_of e

-- The number that is answered for what a call makes of the row, 0 where that is another row.
abbrev pub changed_number : Result Row Refusal → ℕ
changed_number c = done_number (done_of c)

-- The layout number that the refusal carries, 0 where it carries none.
abbrev pub done_found : Result ⊤ Refusal → ℕ
done_found (Ok _) = 0
done_found (Err e) = found_in e
