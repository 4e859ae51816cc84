-- The laws of the latest consecutive equal samples: `latest` does what its sentence says.
use mathlib.Core.Path.{◌≡◌, refl, ◌∙◌, ap}
use mathlib.Core.Bool.{Bool, true, false, cond, not}
use mathlib.Core.List.{List, ◌∷◌, ◌++◌}
use Prim.Native.Nat.{ℕ, zero, suc, ◌≤◌, ◌<◌}
use native.Mathlib.Omega.{arith}
use borrow.Author.Tests.{le-leb, lt-leb}
use lib.Dec.{leb}
use lib.ListN.{replicate}
use Rattle.history_axis.specs.Latest.{streak, latest}

pub streak_same : (x : Bool) (h : List Bool) → streak x (x ∷ h) ≡ suc (streak x h)
unfolding streak
streak_same true h = refl
streak_same false h = refl

pub streak_other : (x : Bool) (h : List Bool) → streak (not x) (x ∷ h) ≡ 0
unfolding streak
streak_other true h = refl
streak_other false h = refl

pub streak_replicate : (r : ℕ) (v : Bool) → streak v (replicate r v) ≡ r
unfolding streak
streak_replicate zero v = refl
streak_replicate (suc r) v = streak_same v (replicate r v) ∙ ap suc (streak_replicate r v)

streak_window : (d : ℕ) (v : Bool) (h : List Bool) → d ≤ streak v (replicate d v ++ h)
streak_window zero v h = omega arith
streak_window (suc d) v h = rw (streak_same v (replicate d v ++ h)) (omega (arith, streak_window d v h))

pub latest_full : (d : ℕ) (v x : Bool) (h : List Bool) → d ≤ streak x (x ∷ h) → latest d v (x ∷ h) ≡ x
unfolding latest
latest_full d v x h g = ap (λ (b : Bool). cond b x (latest d v h)) (le-leb d (streak x (x ∷ h)) g)

pub latest_same : (d : ℕ) (v x : Bool) (h : List Bool) → latest d v h ≡ x → latest d v (x ∷ h) ≡ x
unfolding latest
latest_same d v x h e = rw e (either (leb d (streak x (x ∷ h))))
  where
    either : (b : Bool) → cond b x x ≡ x
    either true = refl
    either false = refl

-- d samples of one level at the newest end give that level.
pub latest_window : (d : ℕ) (v w : Bool) (h : List Bool) → 0 < d → latest d v (replicate d w ++ h) ≡ w
latest_window zero v w h g = absurd (let z : ⊥ = omega arith in z)
latest_window (suc d) v w h g = latest_full (suc d) v w (replicate d w ++ h) (streak_window (suc d) w h)

-- A newest sample that ends no such window is passed over.
pub latest_pass : (d : ℕ) (v x : Bool) (h : List Bool) → streak x (x ∷ h) < d → latest d v (x ∷ h) ≡ latest d v h
unfolding latest
latest_pass d v x h g = ap (λ (b : Bool). cond b x (latest d v h)) (lt-leb d (streak x (x ∷ h)) g)
