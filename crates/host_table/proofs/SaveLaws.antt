-- A record's size fits an answer to C.
use Rattle.std.specs.Prelude.{Result, Ok, Err}
use Prim.Native.Nat.{ℕ, ◌≤◌}
use native.Mathlib.Omega.{arith}
use mathlib.Core.Bool.{Bool, true, false, cond}
use mathlib.Core.List.{List}
use lib.Dec.{leb}
use lib.ListN.{length}
use Rattle.refusal.specs.declared.Refusal.TheVariants.{Value, Room}
use Rattle.axis.specs.Kind.{counter_kind}
use Rattle.axis.specs.Row.{axis_of}
use Rattle.axis_sound.specs.Sound.{status_of}
use Rattle.axis.specs.declared.row.Row.{Row}
use Rattle.axis_sound.specs.declared.Status.{Status}
use Rattle.axis_sound.specs.declared.Status.TheVariants.{Empty, Sampled as Lines, Counter, Broken}
use Rattle.record.specs.Answer.{written_bytes}
use Rattle.record_axis.specs.Limits.{within_limits}
use Rattle.record.specs.Record.{record_of, saved_as}
use Rattle.record_axis.specs.declared.saved.Saved.{Saved}
use Rattle.record.proofs.RecordLaws.{written_shape}
use Rattle.row_calls.specs.Calls.{by_status}
use Rattle.row_saving.specs.Saving.{saved_of, save_row}
use Rattle.table_rows.specs.Located.{located, on_found}
use Rattle.table.specs.Call.{save_in}
use Rattle.refusal.specs.declared.Refusal.{Refusal}

few : (kind : Bool) → cond kind 27 34 ≤ 34
few true = omega arith
few false = omega arith

record_few : (s : Saved) → length (record_of s) ≤ 34
record_few s = rw (written_shape s).long (few (counter_kind s.config.kind))

saved_few : (room : ℕ) (s : Saved) → written_bytes (saved_as room s) ≤ 34
unfolding saved_as
saved_few room s = go (within_limits s) (leb (length (record_of s)) room)
  where
    go : (good fits : Bool) → written_bytes (cond good (cond fits (Ok (length (record_of s))) (Err Room)) (Err Value)) ≤ 34
    go true true = record_few s
    go true false = omega arith
    go false fits = omega arith

row_few : (room : ℕ) (r : Row) → written_bytes (save_row room r) ≤ 34
unfolding save_row
row_few room r = go (status_of r)
  where
    go : (s : Status) → written_bytes (by_status Err (saved_as room (saved_of (axis_of r))) (saved_as room (saved_of (axis_of r))) s) ≤ 34
    go Broken = omega arith
    go Empty = omega arith
    go Lines = saved_few room (saved_of (axis_of r))
    go Counter = saved_few room (saved_of (axis_of r))

-- A save answers at most 34 bytes.
pub save_few : (room : ℕ) (t : List ℕ) (k : ℕ) → written_bytes (save_in room t k) ≤ 34
save_few room t k = go (located t k)
  where
    go : (f : Result Row Refusal) → written_bytes (on_found Err (save_row room) f) ≤ 34
    go (Ok r) = row_few room r
    go (Err e) = omega arith
