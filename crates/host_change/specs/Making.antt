-- What a call that makes another row, and answers only that it did, promises to C: docs/RULES.md, "Calls that name one axis".
use Rattle.std.specs.Prelude.{ℕ, List, Result}
use Rattle.axis.specs.declared.row.Row.{Row}
use Rattle.table_change.specs.Making.{Makes}
use Rattle.host_answers.specs.declared.answer.Answer.{Answer}
use Rattle.host_answers.specs.Answer.{answer_done}
use Rattle.host_answers.specs.Shown.{ShownToC}
use Rattle.refusal.specs.declared.Refusal.{Refusal}

-- What setup, erase, preset, arm, acknowledge and restore promise, each by its rule.
abbrev pub MakesToC : (Row → Result Row Refusal) → List ℕ → ℕ → List ℕ → Answer → Type 0
MakesToC rule t k u a = ShownToC answer_done (Makes rule t k u) a
