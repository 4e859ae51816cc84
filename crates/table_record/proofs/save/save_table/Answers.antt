use Rattle.std.specs.Prelude.{Ok, Err}
use mathlib.Core.Path.{◌≡◌, sym, ap, ◌∙◌}
use mathlib.Core.Bool.{true, false}
use mathlib.Core.List.{List}
use Prim.Native.Nat.{ℕ, ◌+◌, ◌*◌, ◌≤◌, ◌<◌}
use native.Mathlib.Omega.{arith}
use lib.ListN.{length}
use Rattle.refusal.specs.declared.Refusal.TheVariants.{Length, Broken, Room}
use Rattle.refusal.proofs.PassLaws.{passed_on}
use Rattle.axis.specs.Limit.{most_axes}
use Rattle.tagged.specs.Bytes.{bytes_of}
use Rattle.tagged.specs.Field.{field_bytes}
use Rattle.tagged.specs.Store.{Puts}
use Rattle.record.specs.Tags.{end_tag}
use Rattle.record_table.specs.TableRecord.{entries_bytes, table_front}
use Rattle.record_table.proofs.WriterLaws.{puts_table}
use Rattle.table_rows.specs.Table.{axes_in}
use Rattle.table_rows.proofs.RowsLaws.{axes_most}
use Rattle.table_record.specs.declared.measure.Size.{Size}
use Rattle.table_record.specs.Rows.{rows_of}
use Rattle.table_record.specs.Saving.{entries_in, any_broken, size_to, TableSaves}
use Rattle.table_record.proofs.RowsLaws.{rows_some, rows_none}
use Rattle.table_record.proofs.SizeLaws.{size_small}
use Rattle.table_record.proofs.SavingLaws.{save_none, save_broken, save_short, save_wrote}
use Rattle.table_record.proofs.save.save_table.Goals as goal

module _ (t b : List ℕ) {u : List ℕ} {z : Size} (held : rows_of t ≡ Ok u) (measured : z ≡ size_to (axes_in (length u)) u) where
  -- The size that was measured.
  sized : z ≡ size_to (axes_in (length t)) t
  sized = measured ∙ ap (λ (v : List ℕ). size_to (axes_in (length v)) v) (rows_some t held).0

  long : z.bytes ≡ length (entries_bytes (entries_in t))
  unfolding size_to
  long = ap (λ (y : Size). y.bytes) sized

  judged : z.broken ≡ any_broken (axes_in (length t)) t
  unfolding size_to
  judged = ap (λ (y : Size). y.broken) sized

  small : z.bytes ≤ most_axes * 30
  small = omega (arith, ap (λ (y : Size). y.bytes) sized, (size_small (axes_in (length t)) t).1, axes_most (length t))

  -- Behind the front there is room for the rows' entries and for the end.
  room : {m : List ℕ} {i : ℕ} → 12 + z.bytes ≤ length b → Puts (table_front z.count) b 0 m i → length m ≡ length b →
      i + length (entries_bytes (entries_in u)) + 3 ≤ length m
  unfolding size_to table_front field_bytes bytes_of
  room h p e = omega (arith, ap (λ (y : Size). y.bytes) measured, p.behind)

  -- What is answered.
  broken : z.broken ≡ true → TableSaves t b b (Err Broken)
  broken e = save_broken t b (rows_some t held).1 (sym judged ∙ e)

  short : z.broken ≡ false → length b < 12 + z.bytes → TableSaves t b b (Err Room)
  short e l = save_short t b (rows_some t held).1 (sym judged ∙ e) (omega (arith, long, l))

  wrote : {m l d : List ℕ} {i j r : ℕ} → z.broken ≡ false → 12 + z.bytes ≤ length b → Puts (table_front z.count) b 0 m i →
      Puts (entries_bytes (entries_in u)) m i l j → Puts (field_bytes end_tag 0 0) l j d r → TableSaves t b d (Ok r)
  unfolding size_to
  wrote e h p q f =
      save_wrote t b (rows_some t held).1 (sym judged ∙ e) (omega (arith, long, h))
      (puts_table (entries_in t) (rw (ap (λ (y : Size). y.count) sized) at p) (rw (rows_some t held).0 at q) f)

pub returns-in_err-rows : goal.returns-in_err-rows
returns-in_err-rows c =
    let k = rows_none c.args.table.now (sym c.try_from.ensures ∙ c.in_err-rows.was) in
    let r : c.from_residual.result ≡ Err Length = passed_on c.from_residual.ensures.1 (ap Err k.1) in
    rw r (save_none c.args.table.now c.args.buf.now k.0)

pub returns-then-size : goal.returns-then-size
returns-then-size c = broken _ _ (sym c.try_from.ensures ∙ c.in_ok-rows.was) c.size_of-size.ensures c.if-size.true

pub overflow_add-size : goal.overflow_add-size
unfolding most_axes
overflow_add-size c = record {
  fits = omega (arith, small c.args.table.now c.args.buf.now (sym c.try_from.ensures ∙ c.in_ok-rows.was) c.size_of-size.ensures);
}

pub returns-then-buf-size : goal.returns-then-buf-size
returns-then-buf-size c = short _ _ (sym c.try_from.ensures ∙ c.in_ok-rows.was) c.size_of-size.ensures c.if-size.false c.if-buf-size.true

pub put_rows-at-requires : goal.put_rows-at-requires
put_rows-at-requires c =
    let p = c.put_table_front-at in
    omega (arith, room _ _ (sym c.try_from.ensures ∙ c.in_ok-rows.was) c.size_of-size.ensures c.if-buf-size.false p.ensures p.auto.buf)

pub put_field-requires : goal.put_field-requires
put_field-requires c =
    let p = c.put_table_front-at in
    let q = c.put_rows-at in
    let r = room _ _ (sym c.try_from.ensures ∙ c.in_ok-rows.was) c.size_of-size.ensures c.if-buf-size.false p.ensures p.auto.buf in
    omega (arith, r, q.auto.buf, q.ensures.behind)

pub returns : goal.returns
returns c =
    wrote _ _ (sym c.try_from.ensures ∙ c.in_ok-rows.was) c.size_of-size.ensures c.if-size.false c.if-buf-size.false c.put_table_front-at.ensures
    c.put_rows-at.ensures c.put_field.ensures
