-- What a reading and a save promise to C: docs/RULES.md, "Calls that name one axis" and "The saved record".
use Rattle.std.specs.Prelude.{ℕ, List}
use Rattle.table.specs.Call.{ReadingMakes, SaveMakes}
use Rattle.host_answers.specs.declared.answer.Answer.{Answer}
use Rattle.host_answers.specs.Answer.{answer_to, answer_written}
use Rattle.host_answers.specs.Shown.{ShownToC}

-- What a reading promises.
abbrev pub ReadsToC : ℕ → List ℕ → ℕ → List ℕ → Answer → Type 0
ReadsToC x t k u a = ShownToC answer_to (ReadingMakes x t k u) a

-- What a save promises: b before, d after, and the answer; the table is only read.
abbrev pub SavesToC : List ℕ → ℕ → List ℕ → List ℕ → Answer → Type 0
SavesToC t k b d a = ShownToC answer_written (SaveMakes t k b d) a
