-- The laws of a whole-table save: what it answers and leaves, by its checks.
use Rattle.std.specs.Prelude.{Ok, Err}
use mathlib.Core.Path.{◌≡◌, ap, ◌∙◌}
use mathlib.Core.Logic.{◌≢◌}
use mathlib.Core.Bool.{Bool, true, false, cond}
use mathlib.Core.List.{List}
use Prim.Native.Nat.{ℕ, ◌+◌, ◌*◌, ◌≤◌, ◌<◌}
use native.Mathlib.Nat.{zero-add}
use native.Mathlib.Omega.{arith}
use borrow.Author.Tests.{eq-eqb, ne_eqb, le-leb, lt-leb}
use lib.Dec.{eqb, leb}
use lib.ListN.{length}
use Rattle.refusal.specs.declared.Refusal.TheVariants.{Length, Broken, Room}
use Rattle.axis.specs.Limit.{most_axes}
use Rattle.tagged.specs.Store.{Puts}
use Rattle.record.specs.Answer.{written_bytes}
use Rattle.record_table.specs.TableRecord.{entries_bytes}
use Rattle.record_table.proofs.WriterLaws.{table_long, table_short}
use Rattle.table_rows.specs.Table.{axes_in}
use Rattle.table_rows.proofs.RowsLaws.{axes_most}
use Rattle.table_record.proofs.SizeLaws.{entries_few}
use Rattle.table_record.specs.Saving.{entries_in, record_in, any_broken, table_save_in, TableSaves}

module _ (t b : List ℕ) where
  -- Of a slice that holds no axis.
  pub save_none : axes_in (length t) ≡ 0 → TableSaves t b b (Err Length)
  unfolding table_save_in
  save_none e = let n = eq-eqb (axes_in (length t)) 0 e in record { answer = rw n; buffer = rw n }

  module _ (some : axes_in (length t) ≢ 0) where
    -- With a broken row.
    pub save_broken : any_broken (axes_in (length t)) t ≡ true → TableSaves t b b (Err Broken)
    unfolding table_save_in
    save_broken e = let n = ne_eqb (axes_in (length t)) 0 some in record { answer = rw (n, e); buffer = rw (n, e) }

    module _ (sound : any_broken (axes_in (length t)) t ≡ false) where
      -- Without room.
      pub save_short : length b < 12 + length (entries_bytes (entries_in t)) → TableSaves t b b (Err Room)
      unfolding table_save_in
      save_short h =
          let n = ne_eqb (axes_in (length t)) 0 some in
          let l = lt-leb (length (record_in t)) (length b) (rw (table_long (entries_in t)) h) in
          record { answer = rw (n, sound, l); buffer = rw (n, sound, l) }

      -- With room.
      pub save_wrote : {n : ℕ} {d : List ℕ} → 12 + length (entries_bytes (entries_in t)) ≤ length b → Puts (record_in t) b 0 d n →
          TableSaves t b d (Ok n)
      unfolding table_save_in
      save_wrote h p =
          let n = ne_eqb (axes_in (length t)) 0 some in
          let l = le-leb (length (record_in t)) (length b) (rw (table_long (entries_in t)) h) in
          record {
            answer = rw (n, sound, l) (ap Ok (p.behind ∙ zero-add (length (record_in t))));
            buffer = rw (n, sound, l)
                p.buffer;
          }

-- ---- how long it can be

-- A table's record has at most 12 bytes and 30 for each axis that there may be.
pub record_short : (t : List ℕ) → length (record_in t) ≤ 12 + most_axes * 30
record_short t =
    omega (arith, table_short (entries_in t), entries_few (axes_in (length t)) t, axes_most (length t))

-- So has what a save answers.
pub save_short_answer : (room : ℕ) (t : List ℕ) → written_bytes (table_save_in room t) ≤ 12 + most_axes * 30
unfolding table_save_in
save_short_answer room t = go (eqb (axes_in (length t)) 0) (any_broken (axes_in (length t)) t) (leb (length (record_in t)) room)
  where
    go : (a b c : Bool) →
        written_bytes (cond a (Err Length) (cond b (Err Broken) (cond c (Ok (length (record_in t))) (Err Room))))
        ≤ 12 + most_axes * 30
    go true b c = omega arith
    go false true c = omega arith
    go false false true = record_short t
    go false false false = omega arith
