use Rattle.std.specs.Prelude.{Ok}
use Prim.Native.Nat.{ℕ, ◌+◌}
use native.Mathlib.Omega.{arith}
use mathlib.Core.Path.{◌≡◌, refl, sym, ap, ◌∙◌}
use mathlib.Core.Logic.{◌≢◌}
use mathlib.Core.List.{List}
use lib.ListN.{length}
use Rattle.table_rows.specs.Table.{axes_in}
use Rattle.table_port.specs.Port.{nibble, sampled_to, mask_of, masks_to, noted, SamplesRow, Samples}
use Rattle.row_sample.specs.declared.SteppedRow.{SteppedRow}
use Rattle.table_port.specs.declared.Masks.{Masks}
use Rattle.refusal.proofs.PassLaws.{passed_on}
use Rattle.table_rows.proofs.RowsLaws.{axes_fit, axes_most}
use Rattle.table_rows.proofs.LocatedLaws.{axes_counted, axes_refused}
use Rattle.table_port.proofs.PortLaws.{masks_below, masks_next, table_next_lem, sample_none, sample_all}
use Rattle.table_port.proofs.sample.Invariants.{Reached}
use Rattle.table_port.proofs.sample.Goals as goal

-- One row more.
next : {t₀ t u : List ℕ} {port k : ℕ} {m l : Masks} {s : SteppedRow} → Reached t₀ port t m k →
    SamplesRow t k port u s → l ≡ noted m k s → Reached t₀ port u l (k + 1)
next {t₀} {port = port} {k = k} v w e = record {
  table = cc (table_next_lem t₀ (nibble port) k);
  masks = cc (masks_next t₀ (nibble port) k);
}

-- With every row done, they are those of the whole sample.
ended : {t₀ t : List ℕ} {port k : ℕ} {m : Masks} → Reached t₀ port t m k → k ≡ axes_in (length t₀) → k ≢ 0 → Samples t₀ port t (Ok m)
ended {t₀} {port = port} {k = k} v e h =
    let w = sample_all t₀ port k e h in
    record { answer = ap Ok v.masks ∙ w.answer; table = v.table ∙ w.table }

pub returns-in_err-n : goal.returns-in_err-n
returns-in_err-n c =
    let k = axes_refused _ _ (sym c.axes_or_length.ensures ∙ c.in_err-n.was) in
    rw (passed_on c.from_residual.ensures.1 refl, k.1) (sample_none _ _ k.0)

pub loop-k-init : goal.loop-k-init
unfolding sampled_to masks_to mask_of
loop-k-init c =
    let e = c.default-masks.ensures in
    record { table = refl; masks = λ i. record { doubles = e.0 i; index = e.1.0 i; broken = e.1.1 i } }

pub sample_row-requires : goal.sample_row-requires
sample_row-requires c =
    let t = c.args.table.now in
    let n = axes_counted _ _ (sym c.axes_or_length.ensures ∙ c.in_ok-n.was) in
    (omega (arith, n, axes_most (length t)), omega (arith, n, axes_fit (length t)))

pub note-masks-requires : goal.note-masks-requires
note-masks-requires c =
    let n = axes_counted _ _ (sym c.axes_or_length.ensures ∙ c.in_ok-n.was) in
    (omega (arith, n, axes_most (length c.args.table.now)), rw c.loop-k.invariant.masks (masks_below _ _ _))

pub loop-k-preserved : goal.loop-k-preserved
loop-k-preserved c = next c.loop-k.invariant c.sample_row.ensures c.note-masks.ensures

pub returns : goal.returns
returns c =
    let n = axes_counted _ _ (sym c.axes_or_length.ensures ∙ c.in_ok-n.was) in
    ended c.loop-k.invariant (omega (arith, n)) (omega (arith, n))
