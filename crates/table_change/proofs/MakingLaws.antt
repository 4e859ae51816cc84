-- The laws of the calls that make another row of the named one, once for all of them: docs/RULES.md, "Calls that name one axis".
use Rattle.std.specs.Prelude.{Result, Ok, Err, ⊤}
use Prim.Native.Nat.{ℕ, ◌<◌}
use native.Mathlib.Omega.{arith}
use mathlib.Core.Path.{◌≡◌, refl, sym, ap, ◌∙◌}
use mathlib.Core.List.{List}
use lib.ListN.{length}
use Rattle.refusal.specs.declared.Refusal.{Refusal}
use Rattle.axis.specs.declared.row.Row.{Row}
use Rattle.row_calls.specs.Answer.{done_of}
use Rattle.table_rows.specs.Table.{axes_in, row_at, set_row}
use Rattle.table_rows.specs.Located.{located, on_found}
use Rattle.table_change.specs.Making.{ruled, table_after, Spares, Commits, Makes}
use Rattle.table_rows.proofs.RowsLaws.{length_set_row, word_other, row_other, row_same}
use Rattle.table_rows.proofs.LocatedLaws.{found, found_at, found_fits}

-- ---- the ways out of a call

module _ (rule : Row → Result Row Refusal) (t : List ℕ) (k : ℕ) where
  -- Where no row was found, every word stays and the reason is answered.
  pub not_found : (e : Refusal) → located t k ≡ Err e → Makes rule t k t (Err e)
  unfolding table_after
  not_found e q = record { answer = rw q; table = rw q }

  -- Where one was found, the call does what its rule says of it.
  pub found_makes : (r : Row) (c : Result Row Refusal) {u : List ℕ} {a : Result ⊤ Refusal} →
      located t k ≡ Ok r → c ≡ rule r → Commits c t k u a → Makes rule t k u a
  found_makes r c {u} {a} q e w =
      let p : c ≡ ruled rule t k = e ∙ rw q in
      record { answer = w.answer ∙ ap done_of p; table = w.table ∙ ap (table_after t k) p }

-- ---- the named row changes, and no other

-- The named row after a call that made another, which was there to be replaced. It stands before the laws of what a call spares, since a
-- call that writes nothing spares all and is refused here.
pub replaced : (rule : Row → Result Row Refusal) (t : List ℕ) (k : ℕ) (r : Row) → ruled rule t k ≡ Ok r →
    (k < axes_in (length t)) × (rule (row_at t k) ≡ Ok r) × (row_at (table_after t k (Ok r)) k ≡ r)
unfolding table_after
replaced rule t k r = go (located t k) refl
  where
    go : (l : Result Row Refusal) → located t k ≡ l → on_found Err rule l ≡ Ok r →
        (k < axes_in (length t)) × (rule (row_at t k) ≡ Ok r) × (row_at (set_row t k r) k ≡ r)
    go (Err e) q p = absurd (let z : ◌≡◌ {A = ℕ} 0 1 = cc in omega arith)
    go (Ok s) q p =
        let f = found t k s q in
        (f.0, rw f.1 p, row_same t k r (found_fits t k s q))

-- Every other row, and every word outside the named one, after any call.
pub spares : (t : List ℕ) (k : ℕ) (c : Result Row Refusal) → Spares t k (table_after t k c)
unfolding table_after
spares t k (Err e) = record { size = refl; words = λ i h. refl; rows = λ j h. refl }
spares t k (Ok r) = record { size = length_set_row t k r; words = λ i h. word_other t k i r h; rows = λ j h. row_other t k j r h }

module _ (rule : Row → Result Row Refusal) {t u : List ℕ} {k : ℕ} where
  -- Setup, erase, preset, arm, acknowledge and restore change the named row alone.
  pub makes_spares : {a : Result ⊤ Refusal} → Makes rule t k u a → Spares t k u
  makes_spares w = rw w.table (spares t k (ruled rule t k))

  -- Where one of them is refused, every word stays.
  pub undone_keeps : (e : Refusal) → Makes rule t k u (Err e) → u ≡ t
  unfolding table_after
  undone_keeps e w = go (ruled rule t k) refl
    where
      go : (c : Result Row Refusal) → ruled rule t k ≡ c → u ≡ t
      go (Err x) q = w.table ∙ rw q
      go (Ok r) q = absurd (let z : ◌≡◌ {A = ℕ} 0 1 = cc w.answer in omega arith)

  -- Where the rule makes another row of the named one, it is done, and that row stands there.
  pub makes_done : {a : Result ⊤ Refusal} (r : Row) → k < axes_in (length t) → rule (row_at t k) ≡ Ok r → Makes rule t k u a →
      (a ≡ Ok tt) × (row_at u k ≡ r)
  makes_done r there e w =
      let q : ruled rule t k ≡ Ok r = ap (on_found Err rule) (sym (found_at t k there)) ∙ e in
      (w.answer ∙ rw q, rw (w.table, q) (replaced rule t k r q).2)

  -- Where it is done, there is an axis of that number, and its row is the one that the rule makes of it.
  pub done_makes : Makes rule t k u (Ok tt) → (k < axes_in (length t)) × (rule (row_at t k) ≡ Ok (row_at u k))
  done_makes w = go (ruled rule t k) refl
    where
      go : (c : Result Row Refusal) → ruled rule t k ≡ c → (k < axes_in (length t)) × (rule (row_at t k) ≡ Ok (row_at u k))
      go (Err x) q = absurd (let z : ◌≡◌ {A = ℕ} 0 1 = cc w.answer in omega arith)
      go (Ok r) q =
          let f = replaced rule t k r q in
          let e : row_at u k ≡ r = rw (w.table, q) f.2 in
          (f.0, rw e f.1)
