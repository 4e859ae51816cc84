-- What a whole-table save and restore promise to C: docs/RULES.md, "The record of a whole table".
use Rattle.std.specs.Prelude.{ℕ, List}
use Rattle.table_record.specs.Saving.{TableSaves}
use Rattle.table_record.specs.Restoring.{TableRestores}
use Rattle.host_answers.specs.declared.answer.Answer.{Answer}
use Rattle.host_answers.specs.Answer.{answer_done, answer_written}
use Rattle.host_answers.specs.Shown.{ShownToC}

-- What a whole-table save promises: b before, d after, and the answer; the table is only read.
abbrev pub TableSavesToC : List ℕ → List ℕ → List ℕ → Answer → Type 0
TableSavesToC t b d a = ShownToC answer_written (TableSaves t b d) a

-- What a whole-table restore promises: t before, u after, and the answer.
abbrev pub TableRestoresToC : List ℕ → List ℕ → List ℕ → Answer → Type 0
TableRestoresToC s t u a = ShownToC answer_done (TableRestores s t u) a
