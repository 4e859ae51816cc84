-- A test that is computed at every number below a bound, and what it says at each.
use Prim.Native.Nat.{ℕ, zero, suc, ◌<◌}
use mathlib.Core.Path.{◌≡◌, sym, subst}
use mathlib.Core.Bool.{Bool, true, false, ◌&&◌}
use native.Mathlib.Omega.{arith}
use native.Mathlib.Decide.{ℕ_discrete}
use lib.Dec.{T}

-- The two parts of a test that passes.
first : (a b : Bool) → T (a && b) → T a
first true b t = tt
first false b t = t

second : (a b : Bool) → T (a && b) → T b
second true b t = t
second false b t = absurd t

-- The test f passes at every number below n.
abbrev pub every : ℕ → (ℕ → Bool) → Bool
every zero f = true
every (suc n) f = f n && every n f

pub at : (n : ℕ) (f : ℕ → Bool) → T (every n f) → (i : ℕ) → i < n → T (f i)
at zero f t i h = absurd (let z : ⊥ = omega arith in z)
at (suc n) f t i h = go (ℕ_discrete i n) (λ k. at n f (second (f n) (every n f) t) i k)
  where
    go : Dec (i ≡ n) → (i < n → T (f i)) → T (f i)
    go (yes e) k = subst (λ (k : ℕ). T (f k)) (sym e) (first (f n) (every n f) t)
    go (no e) k = k (omega arith)
