-- Whether a row is broken, by what it is: docs/RULES.md, "One row, four words".
use Rattle.std.specs.Prelude.{Bool, true, false}
use Rattle.axis_sound.specs.declared.Status.{Status}
use Rattle.axis_sound.specs.declared.Status.TheVariants.{Empty, Sampled, Counter, Broken}

-- Whether a status is that of a broken row.
abbrev pub broken_by : Status → Bool
broken_by Broken = true
broken_by Empty = false
broken_by Sampled = false
broken_by Counter = false
