use Rattle.std.specs.Prelude.{Ok, Err}
use mathlib.Core.Path.{◌≡◌, refl, sym, ap, ◌∙◌}
use Rattle.refusal.proofs.PassLaws.{passed_on}
use Rattle.axis.specs.Row.{axis_of, row_of}
use Rattle.row_calls.proofs.StatusLaws.{held_position}
use Rattle.row_calls.proofs.InUseLaws.{counting_is, counting_stops}
use Rattle.row_counter.specs.Reading.{read_axis, reading_of, reading_row, read_row, stored_row}
use Rattle.row_counter.proofs.ReadingLaws.{counted_reading, read_in_range}
use Rattle.row_counter.proofs.read.Goals as goal

pub returns-in_err-counter : goal.returns-in_err-counter
unfolding reading_row read_row stored_row
returns-in_err-counter c =
    let p : c.from_residual.result ≡ Err c.in_err-counter.field-0.0 = passed_on c.from_residual.ensures.1 refl in
    let k = counting_stops Err (reading_of c.args.reading (axis_of c.args.r)) c.args.r (sym c.counting.ensures ∙ c.in_err-counter.was) in
    (rw p k, rw (p, ← k))

pub returns-in_err-position : goal.returns-in_err-position
unfolding read_row stored_row
returns-in_err-position c =
    let x = c.args.reading in
    let p : c.from_residual-in_err-position.result ≡ Err c.in_err-position.field-0.0 = passed_on c.from_residual-in_err-position.ensures.1 refl in
    let k = counted_reading x c.args.r (sym c.counting.ensures ∙ c.in_ok-counter.was) c.widened.ensures ∙ c.in_err-position.was in
    (rw (p, k), rw (p, k))

pub moved-requires : goal.moved-requires
moved-requires c =
    let x = c.args.reading in
    let p = c.in_ok-position.position in
    let k = counted_reading x c.args.r (sym c.counting.ensures ∙ c.in_ok-counter.was) c.widened.ensures ∙ c.in_ok-position.was in
    let i = read_in_range x c.args.r p k in
    rw (held_position p i) i

pub returns : goal.returns
unfolding read_row stored_row
returns c =
    let x = c.args.reading in
    let p = c.in_ok-position.position in
    let k = counted_reading x c.args.r (sym c.counting.ensures ∙ c.in_ok-counter.was) c.widened.ensures ∙ c.in_ok-position.was in
    let h = held_position p (read_in_range x c.args.r p k) in
    let g = counting_is c.args.r (sym c.counting.ensures ∙ c.in_ok-counter.was) in
    (rw h (sym k), rw k (ap Ok (c.row.ensures ∙ ap row_of ((rw h at c.moved.ensures) ∙ ap (read_axis p) g.1))))
