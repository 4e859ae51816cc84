use Rattle.std.specs.Prelude.{Ok, Err}
use mathlib.Core.Path.{◌≡◌, refl, sym, ap, ◌∙◌}
use mathlib.Core.Bool.{true, false}
use mathlib.Core.List.{List}
use Prim.Native.Nat.{ℕ, ◌≤◌, ◌<◌}
use borrow.Author.Tests.{le-leb, lt-leb}
use lib.Dec.{leb}
use lib.ListN.{length}
use Rattle.refusal.specs.declared.Refusal.TheVariants.{Length, Axis, Occupied}
use Rattle.refusal.proofs.PassLaws.{passed_on}
use Rattle.tagged.specs.Bytes.{AllBytes}
use Rattle.record_entry.specs.declared.entry.Entry.{Entry}
use Rattle.record_table.specs.TableRecord.{entries_at, table_read_as}
use Rattle.record_table.specs.Survey.{bound_of, survey_of}
use Rattle.record_table.proofs.SurveyLaws.{survey_says, survey_unsaid}
use Rattle.record_table.proofs.RoundTrip.{read_tellable, read_entries}
use Rattle.table_rows.specs.Table.{axes_in}
use Rattle.table_record.specs.Rows.{rows_of}
use Rattle.table_record.specs.Restoring.{all_below, all_empty, entries_said, Fillable, filled, TableRestores}
use Rattle.table_record.proofs.RowsLaws.{rows_some, rows_none}
use Rattle.table_record.proofs.RestoringLaws.{below_bound}
use Rattle.table_record.proofs.RestoringLaws.{restore_none, restore_unread, restore_past, restore_full, restore_fills}
use Rattle.table_record.proofs.restore.restore_table.Goals as goal

module _ (s t : List ℕ) {u : List ℕ} {n number bound : ℕ} (bytes : AllBytes s) (held : rows_of t ≡ Ok u) (counted : n ≡ axes_in (length u))
    (read : survey_of (table_read_as s) ≡ Ok (number, bound)) where
  -- The axes that the record says.
  found : (es : List Entry) × (table_read_as s ≡ Ok es) × (length es ≡ number) × (bound_of 0 es ≡ bound)
  found = survey_says (table_read_as s) number bound read

  -- Whether there is a row for each.
  below : all_below (axes_in (length t)) found.0 ≡ leb bound n
  below =
      below_bound (axes_in (length t)) found.0 (read_tellable s found.0 bytes found.1).rising ∙ rw (found.3, counted, (rows_some t held).0)

  -- Whether the rows are all empty.
  empty : all_empty (axes_in (length u)) u ≡ all_empty (axes_in (length t)) t
  empty = ap (λ (v : List ℕ). all_empty (axes_in (length v)) v) (rows_some t held).0

  -- They are the entries behind the front.
  again : entries_at number s 9 0 ≡ Ok found.0
  again = rw found.2 at (read_entries s found.0 bytes found.1)

  -- What is answered.
  past : n < bound → TableRestores s t t (Err Axis)
  past h = restore_past s t (rows_some t held).1 found.0 found.1 (below ∙ lt-leb bound n h)

  full : bound ≤ n → all_empty (axes_in (length u)) u ≡ false → TableRestores s t t (Err Occupied)
  full h e = restore_full s t (rows_some t held).1 found.0 found.1 (below ∙ le-leb bound n h) (sym empty ∙ e)

  fillable : bound ≤ n → Fillable number s t
  fillable h = record { entries = found.0; read = again; rows = below ∙ le-leb bound n h }

  fills : {v : List ℕ} → bound ≤ n → all_empty (axes_in (length u)) u ≡ true → v ≡ filled t (entries_said (entries_at number s 9 0)) →
      TableRestores s t v (Ok tt)
  fills h e f =
      let w = restore_fills s t (rows_some t held).1 found.0 found.1 (below ∙ le-leb bound n h) (sym empty ∙ e) in
      record { answer = w.answer; table = rw again at f ∙ w.table }

pub returns-in_err-rows : goal.returns-in_err-rows
returns-in_err-rows c =
    let k = rows_none c.args.table.now (sym c.try_from.ensures ∙ c.in_err-rows.was) in
    let r : c.from_residual.result ≡ Err Length = passed_on c.from_residual.ensures.1 (ap Err k.1) in
    rw r (restore_none c.args.slice.now c.args.table.now k.0)

pub returns-in_err-count : goal.returns-in_err-count
returns-in_err-count c =
    let s = c.args.slice.now in
    let t = c.args.table.now in
    let e = survey_unsaid (table_read_as s) _ (sym c.read_table.ensures ∙ c.in_err-count.was) in
    let r : c.from_residual-in_err-count.result ≡ Err c.in_err-count.field-0.0 = passed_on c.from_residual-in_err-count.ensures.1 refl in
    rw r (restore_unread s t (rows_some t (sym c.try_from.ensures ∙ c.in_ok-rows.was)).1 _ e)

pub returns-then-bound-count : goal.returns-then-bound-count
returns-then-bound-count c =
    past _ _ (λ k. (c.type_inv.slice k).fits) (sym c.try_from.ensures ∙ c.in_ok-rows.was) c.count.ensures (sym c.read_table.ensures ∙ c.in_ok-count.was)
    c.if-bound-count.true

pub returns-then-not-all_empty : goal.returns-then-not-all_empty
returns-then-not-all_empty c =
    full _ _ (λ k. (c.type_inv.slice k).fits) (sym c.try_from.ensures ∙ c.in_ok-rows.was) c.count.ensures (sym c.read_table.ensures ∙ c.in_ok-count.was)
    c.if-bound-count.false (sym c.all_empty.ensures ∙ c.if-not-all_empty.true)

pub fill-requires : goal.fill-requires
fill-requires c =
    fillable _ _ (λ k. (c.type_inv.slice k).fits) (sym c.try_from.ensures ∙ c.in_ok-rows.was) c.count.ensures (sym c.read_table.ensures ∙ c.in_ok-count.was)
    c.if-bound-count.false

pub returns : goal.returns
returns c =
    fills _ _ (λ k. (c.type_inv.slice k).fits) (sym c.try_from.ensures ∙ c.in_ok-rows.was) c.count.ensures (sym c.read_table.ensures ∙ c.in_ok-count.was)
    c.if-bound-count.false (sym c.all_empty.ensures ∙ c.if-not-all_empty.false) c.fill.ensures
