use Rattle.tagged.proofs.StoreLaws.{puts_field}
use Rattle.tagged.proofs.field.put_field.Goals as goal

pub returns : goal.returns
returns c =
    puts_field _ _ _ _ _ c.put_head.ensures c.put_number.ensures
