-- The laws of the filter of one line: docs/RULES.md, "A port sample", Filter.
use Prim.Native.Nat.{ℕ, ◌+◌, ◌<◌}
use mathlib.Core.Path.{◌≡◌, refl}
use mathlib.Core.Bool.{Bool, true, false, cond, not, beq}
use native.Mathlib.Omega.{arith}
use borrow.Author.Tests.{eqb-false, eq-eqb, ne_eqb}
use lib.Dec.{eqb}
use Rattle.integers.proofs.Balance.{Decided, yes, no, test}
use Rattle.axis_filter.specs.Filter.{filter_line}
use Rattle.axis_filter.specs.declared.Line.{Line}

-- A level and itself, and a level and the other.
beq_same : (b : Bool) → beq b b ≡ true
beq_same true = refl
beq_same false = refl

beq_other : (b : Bool) → beq (not b) b ≡ false
beq_other true = refl
beq_other false = refl

module _ (d : ℕ) (l : Line) where
  -- A sample of the line's own level ends its run.
  pub same_ends : filter_line d l l.level ≡ record { level = l.level; run = 0 }
  unfolding filter_line
  same_ends = rw (beq_same l.level)

  -- The d-th sample in a row of the other level flips the line, and ends the run.
  pub last_flips : l.run + 1 ≡ d → filter_line d l (not l.level) ≡ record { level = not l.level; run = 0 }
  unfolding filter_line
  last_flips h = rw (beq_other l.level, eq-eqb (l.run + 1) d h)

  -- An earlier one makes the run longer by 1, and does no more.
  pub early_waits : l.run + 1 < d → filter_line d l (not l.level) ≡ record { level = l.level; run = l.run + 1 }
  unfolding filter_line
  early_waits h = rw (beq_other l.level, ne_eqb (l.run + 1) d (λ e. let z : ⊥ = omega arith in z))

  -- A run below the depth stays below it.
  pub filter_short : (raw : Bool) → l.run < d → (filter_line d l raw).run < d
  unfolding filter_line
  filter_short raw h = go (beq raw l.level) (test (eqb (l.run + 1) d))
    where
      go : (b : Bool) → Decided (eqb (l.run + 1) d) →
          (cond {A = Line} b (record { level = l.level; run = 0 })
          (cond (eqb (l.run + 1) d) (record { level = not l.level; run = 0 }) (record { level = l.level; run = l.run + 1 }))).run < d
      go true t = omega arith
      go false (yes e) = rw e (omega arith)
      go false (no e) = rw e (omega (arith, eqb-false))
