-- The laws of a test of the rows of a table.
use mathlib.Core.Path.{◌≡◌, sym, ◌∙◌}
use mathlib.Core.Logic.{◌↔◌}
use mathlib.Core.Bool.{Bool, true, false, ◌||◌, true≢false, or-true, or-false}
use mathlib.Core.List.{List}
use Prim.Native.Nat.{ℕ, zero, suc, ◌<◌}
use native.Mathlib.Omega.{arith}
use borrow.Author.Tests.{eqb-true, eqb-false}
use lib.Dec.{eqb}
use Rattle.integers.proofs.Balance.{Decided, yes, no, test}
use Rattle.axis.specs.declared.row.Row.{Row}
use Rattle.axis.proofs.TestLaws.{refuted}
use Rattle.table_rows.specs.Table.{row_at}
use Rattle.table_record.specs.AnyRow.{any_row}

module _ (f : ℕ → Row → Bool) where
  -- A row that passes is one of them.
  pub any_row_lem : (n k : ℕ) (t : List ℕ) → k < n → f k (row_at t k) ≡ true → any_row f n t ≡ true
  unfolding any_row
  any_row_lem zero k t h e = absurd (omega arith)
  any_row_lem (suc n) k t h e = go (test (eqb k n)) (any_row_lem n k t)
    where
      go : Decided (eqb k n) → (k < n → f k (row_at t k) ≡ true → any_row f n t ≡ true) → (any_row f n t || f n (row_at t n)) ≡ true
      go (yes q) less = rw (← (eqb-true k n q), e) (or-true (any_row f k t))
      go (no q) less = rw (less (let d = eqb-false k n q in omega arith) e)

  -- Where one of them passes, there is one that does.
  pub any_found : (n : ℕ) (t : List ℕ) → any_row f n t ≡ true → (k : ℕ) × (k < n) × (f k (row_at t k) ≡ true)
  unfolding any_row
  any_found zero t e = absurd (true≢false (sym e))
  any_found (suc n) t e = go (test (f n (row_at t n))) (any_found n t) e
    where
      go : Decided (f n (row_at t n)) → (any_row f n t ≡ true → (k : ℕ) × (k < n) × (f k (row_at t k) ≡ true)) →
          (any_row f n t || f n (row_at t n)) ≡ true → (k : ℕ) × (k < suc n) × (f k (row_at t k) ≡ true)
      go (yes q) less e = (n, omega arith, q)
      go (no q) less e = let p = less (sym (or-false (any_row f n t)) ∙ rw q at e) in (p.0, omega (arith, p.1), p.2)

  -- None of them passes exactly where each fails.
  pub none_passes : (n : ℕ) (t : List ℕ) → (any_row f n t ≡ false) ↔ ((k : ℕ) → k < n → f k (row_at t k) ≡ false)
  none_passes n t = (
    λ e k h. refuted (f k (row_at t k)) (λ p. true≢false (sym (any_row_lem n k t h p) ∙ e)),
    λ g. refuted (any_row f n t) (λ e. (let p = any_found n t e in true≢false (sym p.2 ∙ g p.0 p.1))),
  )
