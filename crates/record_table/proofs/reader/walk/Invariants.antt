use mathlib.Core.Path.{◌≡◌}
use Prim.Native.Nat.{◌-◌}
use Rattle.record_table.specs.TableRecord.{entries_at}
use Rattle.record_table.specs.Survey.{survey_of}
use Rattle.record_table.proofs.SurveyLaws.{survey_on}
use Rattle.record_table.proofs.reader.walk.Given as goal

-- What holds with some entries read.
abbrev pub invariant-loop : goal.invariant-loop
invariant-loop l =
    survey_of (entries_at l.count l.slice l.at 0) ≡ survey_on l.counter l.least (entries_at (l.count - l.counter) l.slice l.next l.least)
