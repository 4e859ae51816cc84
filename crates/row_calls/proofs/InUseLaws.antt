-- The laws of the axis that a call works on: where there is one, a call on it says what the row's status says, and where there is none, it
-- refuses as the status does.
use Rattle.std.specs.Prelude.{Result, Ok, Err}
use mathlib.Core.Path.{◌≡◌, refl, ap}
use Prim.Native.Nat.{ℕ}
use native.Mathlib.Omega.{arith}
use Rattle.refusal.specs.declared.Refusal.{Refusal}
use Rattle.refusal.specs.declared.Refusal.TheVariants.{Kind as KIND}
use Rattle.axis.specs.Row.{axis_of}
use Rattle.axis.specs.declared.row.Axis.{Axis}
use Rattle.axis.specs.declared.row.Row.{Row}
use Rattle.axis_sound.specs.Sound.{status_of}
use Rattle.axis_sound.specs.declared.Status.{Status}
use Rattle.axis_sound.specs.declared.Status.TheVariants.{Empty, Sampled, Counter, Broken}
use Rattle.row_calls.specs.Calls.{by_status, axis_in_use, axis_sampled, axis_counting}

-- An axis is no refusal.
never : {B : Type 0} {x : Axis} {e : Refusal} → ◌≡◌ {A = Result Axis Refusal} (Ok x) (Err e) → B
never h = let z : ◌≡◌ {A = ℕ} 0 1 = cc in absurd (omega arith)

-- A refusal is no axis.
none : {B : Type 0} {x : Axis} {e : Refusal} → ◌≡◌ {A = Result Axis Refusal} (Err e) (Ok x) → B
none h = let z : ◌≡◌ {A = ℕ} 0 1 = cc in absurd (omega arith)

-- Two refusals that are one answer are one.
same : {e d : Refusal} → ◌≡◌ {A = Result Axis Refusal} (Err e) (Err d) → d ≡ e
same h = cc

-- Two axes that are one answer are one.
one : {x a : Axis} → ◌≡◌ {A = Result Axis Refusal} (Ok x) (Ok a) → a ≡ x
one h = cc

-- ---- a sampled row or a counter

-- A call on either kind says of its axis what the status says.
pub in_use_goes : {A : Type 0} (refuse : Refusal → A) (f : Axis → A) (r : Row) {a : Axis} → axis_in_use r ≡ Ok a →
    f a ≡ by_status refuse (f (axis_of r)) (f (axis_of r)) (status_of r)
unfolding axis_in_use
in_use_goes {A} refuse f r {a} h = go (status_of r) h
  where
    go : (s : Status) → by_status Err (Ok (axis_of r)) (Ok (axis_of r)) s ≡ Ok a → f a ≡ by_status refuse (f (axis_of r)) (f (axis_of r)) s
    go Broken k = none k
    go Empty k = none k
    go Sampled k = ap f (one k)
    go Counter k = ap f (one k)

-- Where there is none, the status refuses.
pub in_use_stops : {A : Type 0} (refuse : Refusal → A) (x y : A) (r : Row) {e : Refusal} → axis_in_use r ≡ Err e →
    refuse e ≡ by_status refuse x y (status_of r)
unfolding axis_in_use
in_use_stops {A} refuse x y r {e} h = go (status_of r) h
  where
    go : (s : Status) → by_status Err (Ok (axis_of r)) (Ok (axis_of r)) s ≡ Err e → refuse e ≡ by_status refuse x y s
    go Broken k = ap refuse (same k)
    go Empty k = ap refuse (same k)
    go Sampled k = never k
    go Counter k = never k

-- ---- a sampled row only

-- There it is that, and the axis is its own.
pub sampled_is : (r : Row) {a : Axis} → axis_sampled r ≡ Ok a → (status_of r ≡ Sampled) × (a ≡ axis_of r)
unfolding axis_sampled
sampled_is r {a} h = go (status_of r) refl h
  where
    go : (s : Status) → status_of r ≡ s → by_status Err (Ok (axis_of r)) (Err KIND) s ≡ Ok a → (status_of r ≡ Sampled) × (a ≡ axis_of r)
    go Broken e k = none k
    go Empty e k = none k
    go Sampled e k = (e, one k)
    go Counter e k = none k

-- A call on it says of its axis what the status says.
pub sampled_goes : {A : Type 0} (refuse : Refusal → A) (f : Axis → A) (y : A) (r : Row) {a : Axis} → axis_sampled r ≡ Ok a →
    f a ≡ by_status refuse (f (axis_of r)) y (status_of r)
sampled_goes refuse f y r h = let k = sampled_is r h in rw (k.0, k.1)

-- Where there is none, the status refuses.
pub sampled_stops : {A : Type 0} (refuse : Refusal → A) (x : A) (r : Row) {e : Refusal} → axis_sampled r ≡ Err e →
    refuse e ≡ by_status refuse x (refuse KIND) (status_of r)
unfolding axis_sampled
sampled_stops {A} refuse x r {e} h = go (status_of r) h
  where
    go : (s : Status) → by_status Err (Ok (axis_of r)) (Err KIND) s ≡ Err e → refuse e ≡ by_status refuse x (refuse KIND) s
    go Broken k = ap refuse (same k)
    go Empty k = ap refuse (same k)
    go Sampled k = never k
    go Counter k = ap refuse (same k)

-- ---- a counter only

-- There it is that, and the axis is its own.
pub counting_is : (r : Row) {a : Axis} → axis_counting r ≡ Ok a → (status_of r ≡ Counter) × (a ≡ axis_of r)
unfolding axis_counting
counting_is r {a} h = go (status_of r) refl h
  where
    go : (s : Status) → status_of r ≡ s → by_status Err (Err KIND) (Ok (axis_of r)) s ≡ Ok a → (status_of r ≡ Counter) × (a ≡ axis_of r)
    go Broken e k = none k
    go Empty e k = none k
    go Sampled e k = none k
    go Counter e k = (e, one k)

-- A call on it says of its axis what the status says.
pub counting_goes : {A : Type 0} (refuse : Refusal → A) (f : Axis → A) (y : A) (r : Row) {a : Axis} → axis_counting r ≡ Ok a →
    f a ≡ by_status refuse y (f (axis_of r)) (status_of r)
counting_goes refuse f y r h = let k = counting_is r h in rw (k.0, k.1)

-- Where there is none, the status refuses.
pub counting_stops : {A : Type 0} (refuse : Refusal → A) (y : A) (r : Row) {e : Refusal} → axis_counting r ≡ Err e →
    refuse e ≡ by_status refuse (refuse KIND) y (status_of r)
unfolding axis_counting
counting_stops {A} refuse y r {e} h = go (status_of r) h
  where
    go : (s : Status) → by_status Err (Err KIND) (Ok (axis_of r)) s ≡ Err e → refuse e ≡ by_status refuse (refuse KIND) y s
    go Broken k = ap refuse (same k)
    go Empty k = ap refuse (same k)
    go Sampled k = ap refuse (same k)
    go Counter k = never k
