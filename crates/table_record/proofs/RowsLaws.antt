-- The laws of a table's rows, counted, and of LENGTH.
use Rattle.std.specs.Prelude.{Ok, Err}
use mathlib.Core.Path.{◌≡◌, sym, ap}
use mathlib.Core.Logic.{◌≢◌}
use mathlib.Core.List.{List}
use Prim.Native.Nat.{ℕ}
use native.Mathlib.Omega.{arith}
use borrow.Author.Tests.{eq-eqb, ne_eqb, eqb-true, eqb-false}
use lib.Dec.{eqb}
use lib.ListN.{length}
use Rattle.integers.proofs.Balance.{Decided, yes, no, test}
use Rattle.refusal.specs.declared.Refusal.{Refusal}
use Rattle.refusal.specs.declared.Refusal.TheVariants.{Length}
use Rattle.table_rows.specs.Table.{axes_in}
use Rattle.table_rows.specs.Located.{axes_or_length}
use Rattle.table_rows.proofs.LocatedLaws.{axes_counted, axes_refused}
use Rattle.table_record.specs.Rows.{rows_of}

module _ (t : List ℕ) where
  module _ {n : ℕ} (held : axes_or_length (length t) ≡ Ok n) where
    -- The rows are as many as the table holds.
    pub many : n ≡ axes_in (length t)
    many = sym (axes_counted (length t) n held).0

    -- They are its words.
    pub rows_held : Ok t ≡ rows_of t
    unfolding rows_of
    rows_held = rw (ne_eqb (axes_in (length t)) 0 (λ e. omega (arith, axes_counted (length t) n held)))

  -- A table that holds none has no rows.
  pub rows_refused : {e : Refusal} → axes_or_length (length t) ≡ Err e → Err e ≡ rows_of t
  unfolding rows_of
  rows_refused {e} h = let k = axes_refused (length t) e h in rw (eq-eqb (axes_in (length t)) 0 k.0) (ap Err k.1)

  -- Where there are rows, they are the table's words, one row at least.
  pub rows_some : {u : List ℕ} → rows_of t ≡ Ok u → (u ≡ t) × (axes_in (length t) ≢ 0)
  unfolding rows_of
  rows_some {u} h = go (test (eqb (axes_in (length t)) 0))
    where
      go : Decided (eqb (axes_in (length t)) 0) → (u ≡ t) × (axes_in (length t) ≢ 0)
      go (yes e) = let k = rw e at h in let z : ◌≡◌ {A = ℕ} 0 1 = cc in absurd (omega arith)
      go (no e) = let k = rw e at h in (cc, eqb-false _ _ e)

  -- Where there are none, the table holds none, and the reason is LENGTH.
  pub rows_none : {r : Refusal} → rows_of t ≡ Err r → (axes_in (length t) ≡ 0) × (r ≡ Length)
  unfolding rows_of
  rows_none {r} h = go (test (eqb (axes_in (length t)) 0))
    where
      go : Decided (eqb (axes_in (length t)) 0) → (axes_in (length t) ≡ 0) × (r ≡ Length)
      go (yes e) = let k = rw e at h in (eqb-true _ _ e, cc)
      go (no e) = let k = rw e at h in let z : ◌≡◌ {A = ℕ} 0 1 = cc in absurd (omega arith)
