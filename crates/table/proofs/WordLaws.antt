-- A reading and a restore make rows of 64-bit words: docs/RULES.md, "One row, four words".
use Rattle.std.specs.Prelude.{Result, Ok, Err}
use Prim.Native.Nat.{ℕ}
use mathlib.Core.Path.{◌≡◌, refl}
use mathlib.Core.List.{List}
use native.Mathlib.Omega.{arith}
use Rattle.axis.specs.Row.{Words}
use Rattle.record.specs.Record.{read_as}
use Rattle.row_saving.specs.Saving.{restore_row}
use Rattle.row_counter.specs.Reading.{read_row}
use Rattle.row_counter.proofs.ReadingLaws.{read_keeps}
use Rattle.row_saving.proofs.SaveLaws.{restore_refused, restore_makes}
use Rattle.table_change.proofs.WordLaws.{Made}
use Rattle.refusal.specs.declared.Refusal.{Refusal}
use Rattle.record_axis.specs.declared.saved.Saved.{Saved}

pub read_made : (x : ℕ) → Made (read_row x)
read_made x r q e = (read_keeps x r q e).2.words

pub restore_made : (s : List ℕ) → Made (restore_row s)
restore_made s r q e = go (read_as s) refl
  where
    go : (a : Result Saved Refusal) → read_as s ≡ a → Words q
    go (Ok said) h = (restore_makes s said r h q e).words
    go (Err f) h = absurd (let w = restore_refused s f r h in let z : ◌≡◌ {A = ℕ} 0 1 = cc in omega arith)
