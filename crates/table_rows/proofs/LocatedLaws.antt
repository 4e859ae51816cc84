-- The laws of the named row, and of the refusals LENGTH and AXIS: docs/RULES.md, "Reasons for saying no".
use Rattle.std.specs.Prelude.{Result, Ok, Err}
use Prim.Native.Nat.{ℕ, ◌+◌, ◌*◌, ◌/◌, ◌%◌, ◌≤◌, ◌<◌}
use native.Mathlib.Omega.{arith}
use mathlib.Core.Path.{◌≡◌, refl, sym}
use mathlib.Core.Logic.{◌≢◌}
use mathlib.Core.Bool.{Bool, true, false, cond, ◌&&◌, true≢false}
use mathlib.Core.List.{List}
use lib.Dec.{eqb, leb, ltb}
use lib.ListN.{length}
use borrow.Author.Tests.{eq-eqb, eqb-true, eqb-false, ne_eqb, lt-ltb, le-ltb, ltb-true, ltb-false}
use Rattle.refusal.specs.declared.Refusal.{Refusal}
use Rattle.refusal.specs.declared.Refusal.TheVariants.{Length, Axis}
use Rattle.axis.specs.Limit.{most_axes}
use Rattle.axis.specs.declared.row.Row.{Row}
use Rattle.table_rows.specs.Table.{axes_in, row_at}
use Rattle.table_rows.specs.Located.{axes_or_length, located}
use Rattle.table_rows.proofs.RowsLaws.{axes_fit}

-- A length that passes the test holds a fourth of it, and any other is LENGTH.
module _ (len : ℕ) where
  -- What the test makes of the length.
  tested : Bool → Bool → Result ℕ Refusal
  tested a b = let n = cond (a && b) (len / 4) 0 in cond (eqb n 0) (Err Length) (Ok n)

  pub axes_held : (eqb (len % 4) 0 && ltb 0 (len / 4) && leb (len / 4) most_axes) ≡ true → Ok (len / 4) ≡ axes_or_length len
  unfolding axes_or_length axes_in tested
  axes_held = go (eqb (len % 4) 0) (ltb 0 (len / 4)) (leb (len / 4) most_axes) refl
    where
      go : (a c b : Bool) → ltb 0 (len / 4) ≡ c → (a && c && b) ≡ true → Ok (len / 4) ≡ tested a b
      go true true true l e = let z = ltb-true _ _ l in rw (ne_eqb (len / 4) 0 (λ n. omega arith))
      go true true false l e = absurd (true≢false (sym e))
      go true false b l e = absurd (true≢false (sym e))
      go false c b l e = absurd (true≢false (sym e))

  pub axes_none : (eqb (len % 4) 0 && ltb 0 (len / 4) && leb (len / 4) most_axes) ≡ false → Err Length ≡ axes_or_length len
  unfolding axes_or_length axes_in tested
  axes_none = go (eqb (len % 4) 0) (ltb 0 (len / 4)) (leb (len / 4) most_axes) refl
    where
      go : (a c b : Bool) → ltb 0 (len / 4) ≡ c → (a && c && b) ≡ false → Err Length ≡ tested a b
      go true true true l e = absurd (true≢false e)
      go true true false l e = refl
      go true false true l e = let z = ltb-false _ _ l in rw (eq-eqb (len / 4) 0 (omega arith))
      go true false false l e = refl
      go false c b l e = refl

-- What a length that is not refused holds: an axis or more.
pub axes_counted : (len n : ℕ) → axes_or_length len ≡ Ok n → (axes_in len ≡ n) × (0 < n)
unfolding axes_or_length
axes_counted len n = go (eqb (axes_in len) 0) refl
  where
    go : (b : Bool) → eqb (axes_in len) 0 ≡ b → ◌≡◌ {A = Result ℕ Refusal} (cond b (Err Length) (Ok (axes_in len))) (Ok n) → (axes_in len ≡ n) × (0 < n)
    go true e h = absurd (let z : ◌≡◌ {A = ℕ} 0 1 = cc in omega arith)
    go false e h =
        let q : axes_in len ≡ n = cc in
        let z : axes_in len ≢ 0 = eqb-false _ _ e in
        (q, omega arith)

-- A length that is refused holds none, and the reason is LENGTH.
pub axes_refused : (len : ℕ) (e : Refusal) → axes_or_length len ≡ Err e → (axes_in len ≡ 0) × (e ≡ Length)
unfolding axes_or_length
axes_refused len e = go (eqb (axes_in len) 0) refl
  where
    go : (b : Bool) → eqb (axes_in len) 0 ≡ b → ◌≡◌ {A = Result ℕ Refusal} (cond b (Err Length) (Ok (axes_in len))) (Err e) → (axes_in len ≡ 0) × (e ≡ Length)
    go true d h = (eqb-true _ _ d, cc)
    go false d h = absurd (let z : ◌≡◌ {A = ℕ} 0 1 = cc in omega arith)

module _ (t : List ℕ) (k : ℕ) where
  -- A wrong length is LENGTH, whatever axis is named.
  pub found_none : axes_in (length t) ≡ 0 → Err Length ≡ located t k
  unfolding located
  found_none e = rw (eq-eqb _ _ e)

  -- Then a number of n or more is AXIS.
  pub found_past : axes_in (length t) ≢ 0 → axes_in (length t) ≤ k → Err Axis ≡ located t k
  unfolding located
  found_past z h = rw (ne_eqb _ _ z, le-ltb _ _ h)

  -- Then the row is the one named.
  pub found_at : k < axes_in (length t) → Ok (row_at t k) ≡ located t k
  unfolding located
  found_at h = let z : axes_in (length t) ≢ 0 = omega arith in rw (ne_eqb _ _ z, lt-ltb _ _ h)

  -- A row that was found is the one named, and there is an axis of that number.
  pub found : (r : Row) → located t k ≡ Ok r → (k < axes_in (length t)) × (row_at t k ≡ r)
  unfolding located
  found r = go (eqb (axes_in (length t)) 0) (ltb k (axes_in (length t))) refl
    where
      go : (a b : Bool) → ltb k (axes_in (length t)) ≡ b → cond a (Err Length) (cond b (Ok (row_at t k)) (Err Axis)) ≡ Ok r →
          (k < axes_in (length t)) × (row_at t k ≡ r)
      go true b e q = absurd (let z : ◌≡◌ {A = ℕ} 0 1 = cc in omega arith)
      go false true e q = (ltb-true _ _ e, cc)
      go false false e q = absurd (let z : ◌≡◌ {A = ℕ} 0 1 = cc in omega arith)

  -- Its four words lie in the table.
  pub found_fits : (r : Row) → located t k ≡ Ok r → k * 4 + 4 ≤ length t
  found_fits r e = let h : k < axes_in (length t) = (found r e).0 in omega (arith, axes_fit (length t))
