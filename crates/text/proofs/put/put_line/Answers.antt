use mathlib.Core.Path.{◌∙◌}
use Rattle.text.proofs.TextLaws.{puts_line}
use Rattle.text.proofs.put.put_line.Goals as goal

pub returns : goal.returns
returns g c =
    let e = c.as_bytes.ensures.value ∙ c.format.ensures.text in
    puts_line c.put_bytes-number.ensures (rw e at c.put_bytes-end.ensures) c.put_bytes.ensures
