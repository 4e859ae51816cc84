use Rattle.tagged.specs.Store.{Puts}
use Rattle.record_table.specs.TableRecord.{entries_bytes}
use Rattle.table_record.specs.Saving.{entries_to}
use Rattle.table_record.proofs.save.put_rows.Given as goal

-- What holds with k rows put.
abbrev pub invariant-loop-k : goal.invariant-loop-k
invariant-loop-k l = Puts (entries_bytes (entries_to l.k l.rows)) l.initial.buf l.at l.buf l.next
