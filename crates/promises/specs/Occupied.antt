-- Calls on rows that are not empty: docs/RULES.md, "Calls that name one axis", Setup, and "The saved record", Restore.
use Rattle.std.specs.Prelude.{ℕ, ◌≡◌, ◌≢◌, true, List, [], ◌∷◌}
use Rattle.axis_sound.specs.Sound.{status_of}
use Rattle.axis_sound.specs.declared.Status.TheVariants.{Empty}
use Rattle.table_rows.specs.Table.{row_at}
use Rattle.runs.specs.Event.{asked}
use Rattle.runs.specs.Run.{Call, port, names}
use Rattle.history.specs.Lasting.{unheeded}

-- Calls that are each a setup, a restore or a look of a row of a table that is not empty there.
abbrev pub OnFull : List ℕ → List Call → Type 0
OnFull t [] = Unit {0}
OnFull t (port word ∷ cs) = ⊥
OnFull t (names k o ∷ cs) = (unheeded (asked o) ≡ true) × (status_of (row_at t k) ≢ Empty) × OnFull t cs
