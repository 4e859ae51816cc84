use native.Mathlib.Omega.{arith}
use borrow.Author.Rules.{rules}
use Rattle.text.proofs.TextLaws.{puts_text}
use Rattle.text.proofs.report.Report.write.Goals as goal

pub returns : goal.returns
returns c =
    let x = c.put_line-position_at.ensures in
    let y = c.put_line-doubles_at.ensures in
    puts_text c.args.self (search rules) (search rules) (search rules) (omega arith) x y c.put_line.ensures
