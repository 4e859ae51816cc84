-- The laws of a reading and a save of the named axis: docs/RULES.md, "Calls that name one axis".
use Rattle.std.specs.Prelude.{Result, Ok, Err, ⊤}
use Prim.Native.Nat.{ℕ, ◌<◌}
use mathlib.Core.Path.{◌≡◌, refl, sym, ap, ◌∙◌}
use mathlib.Core.List.{List}
use lib.IntN.{ℤ}
use lib.ListN.{length}
use Rattle.refusal.specs.declared.Refusal.{Refusal}
use Rattle.axis.specs.Row.{axis_of, row_of}
use Rattle.axis.specs.declared.row.Row.{Row}
use Rattle.row_saving.specs.Saving.{save_row, saved_in}
use Rattle.row_counter.specs.Reading.{reading_row, stored_row, read_row, read_axis}
use Rattle.table_rows.specs.Table.{axes_in, row_at, set_row}
use Rattle.table_rows.specs.Located.{located, on_found}
use Rattle.table_change.specs.Making.{ruled, table_after, Spares, Commits}
use Rattle.table.specs.Call.{read_in, ReadingMakes, SaveMakes}
use Rattle.table_rows.proofs.LocatedLaws.{found, found_at}
use Rattle.table_change.proofs.MakingLaws.{found_makes, replaced, spares}

-- ---- the ways out of a call

module _ (x : ℕ) (t : List ℕ) (k : ℕ) where
  -- A reading of an axis that is not there.
  pub not_read : (e : Refusal) → located t k ≡ Err e → ReadingMakes x t k t (Err e)
  unfolding table_after
  not_read e q = record { answer = rw q; table = rw q }

  -- A reading of one that is, whatever it makes of the row.
  pub found_commits : (r : Row) (c : Result Row Refusal) {u : List ℕ} {n : Result ℤ Refusal} {a : Result ⊤ Refusal} →
      located t k ≡ Ok r → n ≡ reading_row x r → c ≡ read_row x r → Commits c t k u a → ReadingMakes x t k u n
  found_commits r c q p e w = record { answer = p ∙ rw q; table = (found_makes (read_row x) t k r c q e w).table }

  -- A reading of one that is, refused.
  pub found_unread : (r : Row) (e : Refusal) → located t k ≡ Ok r → Err e ≡ reading_row x r → Err e ≡ read_row x r → ReadingMakes x t k t (Err e)
  unfolding table_after
  found_unread r e q p d = record { answer = rw q p; table = rw (q, ← d) }

  -- A reading of one that is, stored.
  pub found_reads : (r : Row) (p : ℤ) (m : Row) {u : List ℕ} → located t k ≡ Ok r → Ok p ≡ reading_row x r → Ok m ≡ read_row x r →
      u ≡ set_row t k m → ReadingMakes x t k u (Ok p)
  unfolding table_after
  found_reads r p m q e d w = record { answer = rw q e; table = w ∙ rw (q, ← d) }

module _ (t : List ℕ) (k : ℕ) (b : List ℕ) where
  -- A save of an axis that is not there.
  pub not_saved : (e : Refusal) → located t k ≡ Err e → SaveMakes t k b b (Err e)
  not_saved e q = record { answer = rw q; buffer = rw q }

  -- A save of one that is.
  pub found_saves : (r : Row) {d : List ℕ} {a : Result ℕ Refusal} →
      located t k ≡ Ok r → a ≡ save_row (length b) r → d ≡ saved_in b r → SaveMakes t k b d a
  found_saves r q p e = record { answer = p ∙ rw q; buffer = e ∙ rw q }

-- ---- a reading changes the named row, and no other

-- What a reading makes of the named row, by what it answers.
stored : (x : ℕ) (t : List ℕ) (k : ℕ) → ruled (read_row x) t k ≡ stored_row (row_at t k) (read_in x t k)
unfolding read_row stored_row
stored x t k = go (located t k) refl
  where
    go : (l : Result Row Refusal) → located t k ≡ l → on_found Err (read_row x) l ≡ stored_row (row_at t k) (on_found Err (reading_row x) l)
    go (Err e) q = refl
    go (Ok r) q = ap (λ (s : Row). stored_row s (reading_row x r)) (sym (found t k r q).1)

module _ (x : ℕ) {t u : List ℕ} {k : ℕ} where
  -- A reading changes the named row alone.
  pub reads_spares : {a : Result ℤ Refusal} → ReadingMakes x t k u a → Spares t k u
  reads_spares w = rw w.table (spares t k (ruled (read_row x) t k))

  -- Where it is refused, every word stays.
  pub unread_keeps : (e : Refusal) → ReadingMakes x t k u (Err e) → u ≡ t
  unfolding table_after stored_row
  unread_keeps e w = w.table ∙ rw (stored x t k, ← w.answer)

  -- Where it is accepted, the position that is answered is stored in the named row.
  pub read_stores : (p : ℤ) → ReadingMakes x t k u (Ok p) →
      (k < axes_in (length t)) × (reading_row x (row_at t k) ≡ Ok p) × (row_at u k ≡ row_of (read_axis p (axis_of (row_at t k))))
  unfolding stored_row
  read_stores p w =
      let q : ruled (read_row x) t k ≡ Ok (row_of (read_axis p (axis_of (row_at t k)))) = stored x t k ∙ rw (← w.answer) refl in
      let f = replaced (read_row x) t k _ q in
      (f.0, sym (w.answer ∙ ap (on_found Err (reading_row x)) (sym (found_at t k f.0))), rw (w.table, q) f.2)
