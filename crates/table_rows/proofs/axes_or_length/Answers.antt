use Rattle.axis.specs.Limit.{most_axes}
use Rattle.table_rows.proofs.LocatedLaws.{axes_held, axes_none}
use Rattle.table_rows.proofs.axes_or_length.Goals as goal

pub returns-then-len : goal.returns-then-len
unfolding most_axes
returns-then-len c = axes_held c.args.len c.if-len.true

pub returns : goal.returns
unfolding most_axes
returns c = axes_none c.args.len c.if-len.false
