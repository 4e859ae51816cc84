-- The laws of a save into a lent buffer: docs/RULES.md, "The saved record".
use Rattle.std.specs.Prelude.{Result, Ok, Err}
use Prim.Native.Nat.{ℕ, ◌<◌, ◌≤◌}
use native.Mathlib.Omega.{arith}
use mathlib.Core.Path.{◌≡◌, refl, sym, ◌∙◌}
use mathlib.Core.Bool.{Bool, true, false, cond}
use mathlib.Core.List.{List, ◌++◌}
use lib.Dec.{leb}
use lib.ListN.{length, drop, length-append, length-drop}
use lib.Seq.{take_at, drop_at}
use borrow.Author.Tests.{leb-true}
use Rattle.refusal.specs.declared.Refusal.{Refusal}
use Rattle.refusal.specs.declared.Refusal.TheVariants.{Value, Room}
use Rattle.axis.specs.Row.{axis_of}
use Rattle.axis_sound.specs.Sound.{status_of}
use Rattle.axis.specs.declared.row.Row.{Row}
use Rattle.axis_sound.specs.declared.Status.{Status}
use Rattle.axis_sound.specs.declared.Status.TheVariants.{Empty, Sampled, Counter, Broken}
use Rattle.record_axis.specs.Limits.{within_limits}
use Rattle.record.specs.Record.{record_of, saved_as, written}
use Rattle.record_axis.specs.declared.saved.Saved.{Saved}
use Rattle.record.proofs.RecordLaws.{saved_front, refused_kept}
use Rattle.row_calls.specs.Calls.{by_status}
use Rattle.row_saving.specs.Saving.{saved_of, save_row, saved_in}
use Rattle.table_rows.specs.Table.{axes_in, row_at}
use Rattle.table_rows.specs.Located.{located, on_found}
use Rattle.table.specs.Call.{SaveMakes, Fronts}
use Rattle.table_rows.proofs.LocatedLaws.{found}

-- Bytes put before what lay beyond them.
fronts : (bytes b : List ℕ) (n : ℕ) (d : List ℕ) → length bytes ≡ n → n ≤ length b → d ≡ bytes ++ drop n b → Fronts bytes b n d
fronts bytes b n d size room e = record {
  size = size;
  room = room;
  front = rw e (take_at bytes (drop n b) n size);
  beyond = rw e (drop_at bytes (drop n b) n size);
  whole = rw e (simp (length-append, length-drop) (omega arith));
}

module _ (b : List ℕ) where
  -- What a save says that it wrote of a record stands at the front of the buffer.
  record_fronts : (s : Saved) (n : ℕ) → saved_as (length b) s ≡ Ok n → Fronts (record_of s) b n (written b s)
  unfolding saved_as
  record_fronts s n = go (within_limits s) refl (leb (length (record_of s)) (length b)) refl
    where
      go : (x : Bool) → within_limits s ≡ x → (y : Bool) → leb (length (record_of s)) (length b) ≡ y →
          cond x (cond y (Ok (length (record_of s))) (Err Room)) (Err Value) ≡ Ok n →
          Fronts (record_of s) b n (written b s)
      go true w true l q =
          let e : length (record_of s) ≡ n = cc in
          let h : length (record_of s) ≤ length b = leb-true _ _ l in
          fronts (record_of s) b n (written b s) e (rw (← e) h) (rw e at (saved_front b s w h))
      go true w false l q = absurd (let z : ◌≡◌ {A = ℕ} 0 1 = cc in omega arith)
      go false w y l q = absurd (let z : ◌≡◌ {A = ℕ} 0 1 = cc in omega arith)

  module _ (r : Row) where
    -- A save of a row that is refused leaves the buffer.
    row_kept : (e : Refusal) → save_row (length b) r ≡ Err e → saved_in b r ≡ b
    unfolding save_row saved_in
    row_kept e = go (status_of r)
      where
        s : Saved
        s = saved_of (axis_of r)

        go : (x : Status) → by_status Err (saved_as (length b) s) (saved_as (length b) s) x ≡ Err e →
            by_status (λ _. b) (written b s) (written b s) x ≡ b
        go Broken q = refl
        go Empty q = refl
        go Sampled q = refused_kept b s e q
        go Counter q = refused_kept b s e q

    -- One that is accepted puts the row's record at its front.
    row_fronts : (n : ℕ) → save_row (length b) r ≡ Ok n → Fronts (record_of (saved_of (axis_of r))) b n (saved_in b r)
    unfolding save_row saved_in
    row_fronts n = go (status_of r)
      where
        s : Saved
        s = saved_of (axis_of r)

        go : (x : Status) → by_status Err (saved_as (length b) s) (saved_as (length b) s) x ≡ Ok n →
            Fronts (record_of s) b n (by_status (λ _. b) (written b s) (written b s) x)
        go Broken q = absurd (let z : ◌≡◌ {A = ℕ} 0 1 = cc in omega arith)
        go Empty q = absurd (let z : ◌≡◌ {A = ℕ} 0 1 = cc in omega arith)
        go Sampled q = record_fronts s n q
        go Counter q = record_fronts s n q

module _ (t : List ℕ) (k : ℕ) (b : List ℕ) {d : List ℕ} where
  -- A save that is refused keeps every byte.
  pub unsaved_keeps : (e : Refusal) → SaveMakes t k b d (Err e) → d ≡ b
  unsaved_keeps e w = w.buffer ∙ go (located t k) (sym w.answer)
    where
      go : (l : Result Row Refusal) → on_found Err (save_row (length b)) l ≡ Err e → on_found (λ _. b) (saved_in b) l ≡ b
      go (Err x) q = refl
      go (Ok r) q = row_kept b r e q

  -- A save that is accepted answers n, puts the n bytes of the named axis's record at the front, and touches nothing beyond.
  pub save_fronts : (n : ℕ) → SaveMakes t k b d (Ok n) → (k < axes_in (length t)) × Fronts (record_of (saved_of (axis_of (row_at t k)))) b n d
  save_fronts n w = go (located t k) refl (sym w.answer)
    where
      go : (l : Result Row Refusal) → located t k ≡ l → on_found Err (save_row (length b)) l ≡ Ok n →
          (k < axes_in (length t)) × Fronts (record_of (saved_of (axis_of (row_at t k)))) b n d
      go (Err x) p q = absurd (let z : ◌≡◌ {A = ℕ} 0 1 = cc in omega arith)
      go (Ok r) p q =
          let f = found t k r p in
          (f.0, rw (f.1, w.buffer, p) (row_fronts b r n q))
