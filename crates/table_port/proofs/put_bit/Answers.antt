use native.Mathlib.Omega.{arith}
use Rattle.table_port.specs.Port.{put_bit}
use Rattle.table_port.proofs.MaskLaws.{bit_put}
use Rattle.table_port.proofs.RoomLaws.{mask_room}
use Rattle.table_port.proofs.put_bit.Goals as goal

pub overflow_cast-result : goal.overflow_cast-result
overflow_cast-result c = omega (arith, mask_room)

pub overflow_shl-result : goal.overflow_shl-result
overflow_shl-result c = omega (arith, mask_room)

pub returns-then-on : goal.returns-then-on
unfolding put_bit
returns-then-on c = let a = c.args in rw c.if-on.true (bit_put a.k a.mask (omega (arith, mask_room)) c.requires.1)

pub returns-else-on : goal.returns-else-on
unfolding put_bit
returns-else-on c = rw c.if-on.false
