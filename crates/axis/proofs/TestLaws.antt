-- Laws of tests: conjunctions and disjunctions that hold.
use mathlib.Core.Path.{◌≡◌, refl, sym}
use mathlib.Core.Bool.{Bool, true, false, ◌&&◌, ◌||◌, and-eq-true_iff, true≢false}

-- Both parts of a conjunction that holds hold.
pub both : (a b : Bool) → a && b ≡ true → (a ≡ true) × (b ≡ true)
both a b e = (and-eq-true_iff a b).0 e

-- A disjunction that holds has its second part where the first is false.
pub otherwise : (a b : Bool) → a || b ≡ true → a ≡ false → b ≡ true
otherwise true b e f = absurd (true≢false f)
otherwise false b e f = e

-- A disjunction holds if its second part does where the first is false.
pub either : (a b : Bool) → (a ≡ false → b ≡ true) → a || b ≡ true
either true b f = refl
either false b f = f refl

-- Two tests of which each holds where the other does are one.
pub same_test : (a b : Bool) → (a ≡ true → b ≡ true) → (b ≡ true → a ≡ true) → a ≡ b
same_test true b to from = sym (to refl)
same_test false true to from = from refl
same_test false false to from = refl

-- A test that cannot hold is false.
pub refuted : (b : Bool) → (b ≡ true → ⊥) → b ≡ false
refuted true f = absurd (f refl)
refuted false f = refl
