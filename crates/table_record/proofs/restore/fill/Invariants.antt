use Rattle.std.specs.Prelude.{Ok}
use mathlib.Core.Path.{◌≡◌}
use mathlib.Core.Bool.{true}
use mathlib.Core.List.{List}
use Prim.Native.Nat.{ℕ, ◌-◌}
use lib.ListN.{length}
use Rattle.record_entry.specs.declared.entry.Entry.{Entry}
use Rattle.record_table.specs.TableRecord.{entries_at}
use Rattle.table_rows.specs.Table.{axes_in}
use Rattle.table_record.specs.Restoring.{all_below, filled, entries_said}
use Rattle.table_record.proofs.restore.fill.Given as goal

pub record Reached (t₀ s : List ℕ) (count : ℕ) (t : List ℕ) (at least i : ℕ) : Type 0 where
  pub rest : List Entry
  pub left : entries_at (count - i) s at least ≡ Ok rest
  pub below : all_below (axes_in (length t₀)) rest ≡ true
  pub size : length t ≡ length t₀
  pub same : filled t₀ (entries_said (entries_at count s 9 0)) ≡ filled t rest

-- What holds with some entries put.
abbrev pub invariant-loop : goal.invariant-loop
invariant-loop l = Reached l.initial.table l.slice l.count l.table l.at l.least l.counter
