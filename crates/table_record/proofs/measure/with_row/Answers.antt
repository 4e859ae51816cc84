use native.Mathlib.Omega.{arith}
use Rattle.axis.specs.Limit.{most_axes}
use Rattle.record_axis.proofs.AxisLaws.{length_bounds}
use Rattle.table_record.proofs.measure.with_row.Goals as goal

pub overflow_add-result-in-Ok-Some-2 : goal.overflow_add-result-in-Ok-Some-2
unfolding most_axes
overflow_add-result-in-Ok-Some-2 c = record {
  fits = omega (arith, c.requires, c.axis_length.ensures, length_bounds c.from.result);
}
