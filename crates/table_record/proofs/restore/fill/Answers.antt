use Rattle.std.specs.Prelude.{Result, Ok, Err}
use Rattle.std.specs.Result.{IsOk}
use mathlib.Core.Path.{◌≡◌, refl, sym, ap, ◌∙◌}
use mathlib.Core.List.{List}
use Prim.Native.Nat.{ℕ, suc, ◌+◌, ◌-◌, ◌≤◌, ◌<◌}
use native.Mathlib.Numerals.{add-one}
use native.Mathlib.Omega.{arith}
use borrow.Author.Tests.{ltb-true}
use lib.Dec.{ltb}
use lib.ListN.{length}
use Rattle.refusal.specs.declared.Refusal.{Refusal}
use Rattle.axis.proofs.TestLaws.{both}
use Rattle.record_entry.specs.Entry.{entry_from}
use Rattle.record_entry.specs.declared.entry.Entry.{Entry}
use Rattle.record_entry.proofs.EntryLaws.{entry_within}
use Rattle.record_table.specs.TableRecord.{entries_at}
use Rattle.record_table.proofs.RoundTrip.{entry_some, entries_first, entries_none}
use Rattle.row_saving.specs.Saving.{said_row}
use Rattle.table_rows.specs.Table.{axes_in, set_row}
use Rattle.table_rows.proofs.RowsLaws.{axes_fit, length_set_row}
use Rattle.table_record.specs.Restoring.{all_below, filled, entries_said, Fillable}
use Rattle.table_record.proofs.restore.fill.Invariants.{Reached}
use Rattle.table_record.proofs.restore.fill.Goals as goal

-- At first none is put.
first : {t s : List ℕ} {count : ℕ} → Fillable count s t → Reached t s count t 9 0 0
first {t} {s} {count} f =
    let e : count - 0 ≡ count = omega arith in
    record {
      rest = f.entries;
      left = rw e f.read;
      below = f.rows;
      size = refl;
      same = rw f.read;
    }

-- Where one is left, it is the first of those left.
module _ {t₀ s t : List ℕ} {count at least i : ℕ} (v : Reached t₀ s count t at least i) (h : i < count) where
  one_left : entries_at (suc (count - (i + 1))) s at least ≡ Ok v.rest
  one_left = let e : count - i ≡ suc (count - (i + 1)) = omega arith in rw e at v.left

  -- It is not refused.
  there : IsOk (entry_from s at least)
  there = go (entry_from s at least) refl
    where
      go : (x : Result (Entry × ℕ) Refusal) → entry_from s at least ≡ x → IsOk x
      go (Ok x) q = refl
      go (Err r) q = absurd (entry_some _ _ _ _ one_left r q)

  -- It is put in its row.
  next : (e : Entry) (after : ℕ) → entry_from s at least ≡ Ok (e, after) →
      (e.axis < axes_in (length t₀)) × Reached t₀ s count (set_row t e.axis (said_row e.saved)) after (e.axis + 1) (i + 1)
  unfolding all_below filled
  next e after q =
      let f = entries_first (count - (i + 1)) s at least one_left e after q in
      let b = both (ltb e.axis (axes_in (length t₀))) (all_below (axes_in (length t₀)) f.0) (rw f.1 at v.below) in (
        ltb-true e.axis (axes_in (length t₀)) b.0,
        record {
          rest = f.0;
          left = rw (add-one e.axis) f.2;
          below = b.1;
          size = length_set_row t e.axis (said_row e.saved) ∙ v.size;
          same = v.same ∙ ap (filled t) f.1;
        },
      )

-- With every entry put, the table is filled.
last : {t₀ s t : List ℕ} {count at least i : ℕ} → Reached t₀ s count t at least i → count ≤ i →
    t ≡ filled t₀ (entries_said (entries_at count s 9 0))
unfolding filled
last {s = s} {t = t} {count = count} {at = at} {least = least} {i = i} v h =
    let e : count - i ≡ 0 = omega arith in
    sym (v.same ∙ ap (filled t) (entries_none s at least (rw e at v.left)))

pub loop-init : goal.loop-init
loop-init c = first c.requires

pub unwrap-next-requires : goal.unwrap-next-requires
unwrap-next-requires c = rw c.read_entry.ensures (there c.loop.invariant c.loop-test.true)

pub said_row-requires : goal.said_row-requires
said_row-requires c = entry_within c.args.slice.now c.loop.at _ _ _ (sym c.read_entry.ensures ∙ c.unwrap-next.ensures)

pub write_row-requires : goal.write_row-requires
write_row-requires c =
    let n = next c.loop.invariant c.loop-test.true _ _ (sym c.read_entry.ensures ∙ c.unwrap-next.ensures) in
    omega (arith, n.0, c.from.ensures, c.loop.invariant.size, axes_fit (length c.args.table.now))

pub loop-preserved : goal.loop-preserved
loop-preserved c =
    let n = next c.loop.invariant c.loop-test.true _ _ (sym c.read_entry.ensures ∙ c.unwrap-next.ensures) in
    rw (c.write_row.ensures, c.from-least.ensures, c.from.ensures, c.said_row.ensures) n.1

pub returns : goal.returns
returns c = last c.loop.invariant (omega arith)
