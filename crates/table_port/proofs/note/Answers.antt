use Rattle.table_port.specs.Port.{noted}
use Rattle.table_port.proofs.note.Goals as goal

pub returns : goal.returns
unfolding noted
returns c = rw (c.put_bit.ensures, c.put_bit-2.ensures, c.put_bit-3.ensures)
