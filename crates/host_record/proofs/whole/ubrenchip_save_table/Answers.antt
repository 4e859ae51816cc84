use native.Mathlib.Omega.{arith}
use lib.ListN.{length}
use Rattle.axis.specs.Limit.{most_axes}
use Rattle.table_record.proofs.SavingLaws.{save_short_answer}
use Rattle.host_record.proofs.whole.ubrenchip_save_table.Goals as goal

pub of_written-requires : goal.of_written-requires
unfolding most_axes
of_written-requires c =
    let a = c.args in
    rw c.save_table.ensures.answer (omega (arith, save_short_answer (length a.buffer.now) a.table.now))
