-- The answers of reading, testing and saving a record, in numbers: docs/RULES.md, "Reasons for saying no".
use Rattle.std.specs.Prelude.{ℕ, pos, Result, Ok, Err, ⊤}
use Rattle.refusal.specs.Refusal.{number_of, found_in}
use Rattle.record_axis.specs.declared.saved.Saved.{Saved}
use Rattle.refusal.specs.declared.Refusal.{Refusal}

-- A reading's number is 0 where the record is accepted, else its refusal's.
abbrev pub read_number : Result Saved Refusal → ℕ
read_number (Ok s) = 0
read_number (Err r) = number_of r

-- The layout number that a reading found, 0 where it refused for no layout.
abbrev pub read_found : Result Saved Refusal → ℕ
read_found (Ok s) = 0
read_found (Err r) = found_in r

-- What a reading says, all 0 on a refusal.
abbrev pub read_saved : Result Saved Refusal → Saved
read_saved (Ok s) = s
read_saved (Err r) = record { config = record { kind = 0; depth = 0; width = 0; turn = 0 }; position = pos 0 }

-- A test accepts what a reading accepts, and refuses as it does.
abbrev pub tested_of : Result Saved Refusal → Result ⊤ Refusal
tested_of (Ok s) = Ok tt
tested_of (Err r) = Err r

-- A test's number is 0 where the record is accepted, else its refusal's.
abbrev pub tested_number : Result ⊤ Refusal → ℕ
tested_number (Ok _) = 0
tested_number (Err r) = number_of r

-- The layout number that a test found, 0 where it refused for no layout.
abbrev pub tested_found : Result ⊤ Refusal → ℕ
tested_found (Ok _) = 0
tested_found (Err r) = found_in r

-- A save's number is 0 where the record is written, else its refusal's.
abbrev pub written_number : Result ℕ Refusal → ℕ
written_number (Ok n) = 0
written_number (Err r) = number_of r

-- The layout number that a save's refusal shows, 0 where it carries none.
abbrev pub written_found : Result ℕ Refusal → ℕ
written_found (Ok n) = 0
written_found (Err r) = found_in r

-- The number of bytes that a save wrote, 0 on a refusal.
abbrev pub written_bytes : Result ℕ Refusal → ℕ
written_bytes (Ok n) = n
written_bytes (Err r) = 0
