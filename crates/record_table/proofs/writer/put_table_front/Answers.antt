use Rattle.tagged.proofs.StoreLaws.{puts_then}
use Rattle.record_table.specs.TableRecord.{table_front}
use Rattle.record_table.proofs.writer.put_table_front.Goals as goal

pub returns : goal.returns
unfolding table_front
returns c = puts_then c.put_bytes-at.ensures c.put_field.ensures
