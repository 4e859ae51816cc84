-- The laws of the reasons: no number is 0, and number and found value together tell them apart.
use mathlib.Core.Path.{◌≡◌, refl, sym, ap, ◌∙◌}
use mathlib.Core.Logic.{inl, inr}
use mathlib.Core.Bool.{Bool, true, false, cond}
use mathlib.Core.List.{List, [], ◌∷◌, map}
use Prim.Native.Nat.{ℕ, ◌<◌, ◌≤◌}
use native.Mathlib.Omega.{arith}
use lib.ListN.{get_or, length}
use borrow.Author.Tests.{ne_eqb}
use Rattle.refusal.specs.declared.Refusal.{Refusal}
use Rattle.refusal.specs.declared.Refusal.TheVariants.{Length, Axis, Broken, Empty, Kind, Value}
use Rattle.refusal.specs.declared.Refusal.TheVariants.{Half, Range, NoPeriod, Room, Layout, Record, Occupied}
use Rattle.refusal.specs.Refusal.{number_of, found_in}
use Rattle.refusal.specs.Order.{checked, place_in, After, ByThen}

-- The reason with a number and a found value.
reason : ℕ → ℕ → Refusal
reason n f =
    get_or (Length ∷ Length ∷ Axis ∷ Broken ∷ Empty ∷ Kind ∷ Value ∷ Half ∷ Range ∷ NoPeriod ∷ Room ∷ Layout f ∷ Record ∷ Occupied ∷ []) n
    Length

-- A reason is the one with its number and its found value, and the one at its place in the order.
again : (r : Refusal) → (reason (number_of r) (found_in r) ≡ r) × (number_of (get_or checked (place_in checked (number_of r)) Length) ≡ number_of r)
unfolding reason
again Length = (refl, refl)
again Axis = (refl, refl)
again Broken = (refl, refl)
again Empty = (refl, refl)
again Kind = (refl, refl)
again Value = (refl, refl)
again Half = (refl, refl)
again Range = (refl, refl)
again NoPeriod = (refl, refl)
again Room = (refl, refl)
again (Layout n) = (refl, refl)
again Record = (refl, refl)
again Occupied = (refl, refl)

-- No reason has the number 0, which stands for done.
pub above_zero : (r : Refusal) → number_of r ≡ 0 → ⊥
unfolding reason
above_zero r z = let e : Length ≡ r = rw z at (again r).0 in omega (arith, ap number_of e)

-- Two reasons with one number and one found value are one reason.
pub told_apart : (r s : Refusal) → number_of r ≡ number_of s → found_in r ≡ found_in s → r ≡ s
told_apart r s n f = sym (again r).0 ∙ rw (n, f) (again s).0

-- Every reason has its place in the order in which they are checked, and no other has it.
pub in_place : (r : Refusal) → number_of (get_or checked (place_in checked (number_of r)) Length) ≡ number_of r
in_place r = (again r).1

-- That order is that of the table in docs/RULES.md, line by line.
pub in_table : map number_of checked ≡ 1 ∷ 2 ∷ 3 ∷ 4 ∷ 5 ∷ 13 ∷ 6 ∷ 7 ∷ 8 ∷ 9 ∷ 10 ∷ 11 ∷ 12 ∷ []
in_table = refl

module _ (order : List Refusal) (e f : Refusal) {n : ℕ} (sooner : place_in order (number_of f) ≤ place_in order (number_of e)) where
  -- An answer that is done or comes after a reason is not refused for that one, nor for one before it.
  pub after_not : After order e n → n ≡ number_of f → ⊥
  after_not (inl z) q = above_zero f (sym q ∙ z)
  after_not (inr l) q = omega (arith, ap (place_in order) q)

  -- It comes after every reason before that one too.
  pub after_sooner : After order e n → After order f n
  after_sooner (inl z) = inl z
  after_sooner (inr l) = inr (omega arith)

-- Done has no place in any order.
done_last : (order : List Refusal) → place_in order 0 ≡ length order
done_last [] = refl
done_last (e ∷ order) = rw (ne_eqb 0 (number_of e) (λ z. above_zero e (sym z)), done_last order)

-- An answer that is refused for a reason of an order by then is neither done nor refused for a later one.
pub by_then_not : (order : List Refusal) (e : Refusal) {n : ℕ} → place_in order (number_of e) < length order → ByThen order e n →
    After order e n → ⊥
by_then_not order e there by (inl z) = omega (arith, ap (place_in order) z, done_last order)
by_then_not order e there by (inr l) = omega arith

-- A choice between two answers that are done or come after a reason is one.
pub after_either : (order : List Refusal) {A : Type 0} (number : A → ℕ) (e : Refusal) (b : Bool) (p q : A) →
    After order e (number p) → After order e (number q) → After order e (number (cond b p q))
after_either order number e true p q x y = x
after_either order number e false p q x y = y
