-- The laws of the index line: docs/RULES.md, "A port sample", Index.
use Prim.Native.Nat.{ℕ, suc, ◌+◌, ◌*◌, ◌-◌, ◌/◌, ◌%◌, ◌^◌, ◌<◌}
use native.Mathlib.Nat.{mod-lt, mod-eq_of_lt, mod_self, add-mul-mod_self_right, div-add-mod'}
use native.Mathlib.Omega.{arith}
use mathlib.Core.Path.{◌≡◌, refl, sym, ap, ◌∙◌}
use mathlib.Core.Bool.{Bool, true, false, not, ◌||◌, beq, true≢false}
use borrow.Author.Tests.{lt-ltb, ne_eqb, ltb-true, ltb-false}
use lib.Dec.{eqb, ltb}
use lib.IntN.{ℤ, pos, negsuc, nat_abs, ◌-ℤ◌}
use Rattle.std.specs.Prelude.{Option, None, Some}
use Rattle.std.specs.Int.{abs_diff}
use Rattle.integers.specs.Integer.{mod_z}
use Rattle.integers.proofs.Balance.{Decided, yes, no, test}
use Rattle.position.specs.Position.{position_of}
use Rattle.axis_decode.specs.declared.Move.{Move}
use Rattle.axis_decode.specs.declared.Move.TheVariants.{Still, Forward, Back, Double}
use Rattle.axis_index.specs.Index.{edge_by, is_forward, is_backward, met, off_turn}
use Rattle.axis_index.specs.declared.Way.{Way}
use Rattle.axis_index.specs.declared.Way.TheVariants.{Forward as MetForward, Backward as MetBackward}

-- ---- the reference edge

-- An edge is met one way at most.
pub one_way : (e : Option Way) → is_forward e ≡ true → is_backward e ≡ false
one_way None h = refl
one_way (Some MetForward) h = refl
one_way (Some MetBackward) h = absurd (true≢false (sym h))

-- It is met one way or the other.
pub either_way : (e : Option Way) → met e ≡ (is_forward e || is_backward e)
either_way None = refl
either_way (Some MetForward) = refl
either_way (Some MetBackward) = refl

-- Where Z stays there is none.
pub no_change : (m : Move) (old new : Bool) → beq old new ≡ true → edge_by m old new ≡ None
unfolding edge_by
no_change m true false e = absurd (true≢false (sym e))
no_change m false true e = absurd (true≢false (sym e))
no_change Still true true e = refl
no_change Still false false e = refl
no_change Forward true true e = refl
no_change Forward false false e = refl
no_change Back true true e = refl
no_change Back false false e = refl
no_change Double true true e = refl
no_change Double false false e = refl

-- ---- how far a position is from 0, by its word

pub far : (w : ℕ) → abs_diff w (2 ^ 62) ≡ nat_abs (position_of w)
unfolding position_of
far w = go (test (ltb w (2 ^ 62)))
  where
    go : Decided (ltb w (2 ^ 62)) → abs_diff w (2 ^ 62) ≡ nat_abs (pos w -ℤ pos (2 ^ 62))
    go (yes e) = rw e (omega (arith, ltb-true))
    go (no e) = rw e (omega (arith, ltb-false))

-- ---- the check

-- No counts per turn, no check.
pub unchecked : (p : ℤ) → off_turn 0 p ≡ false
unfolding off_turn
unchecked p = refl

-- A distance below 0 is a whole number of turns where its remainder is 0.
back_turns : (a m : ℕ) → 0 < m → eqb (suc a % m) 0 ≡ eqb (m - suc (a % m)) 0
back_turns a m h =
    ap (λ (n : ℕ). eqb (n % m) 0) whole ∙ ap (λ (n : ℕ). eqb n 0) (add-mul-mod_self_right (suc (a % m)) (a / m) m)
    ∙ go (test (ltb (suc (a % m)) m))
  where
    whole : suc a ≡ suc (a % m) + a / m * m
    whole = omega (arith, div-add-mod' a m)

    go : Decided (ltb (suc (a % m)) m) → eqb (suc (a % m) % m) 0 ≡ eqb (m - suc (a % m)) 0
    go (yes e) =
        let f = ltb-true (suc (a % m)) m e in
        rw (mod-eq_of_lt f, ne_eqb (m - suc (a % m)) 0 (λ z. let y : ⊥ = omega arith in y))
        (ne_eqb (suc (a % m)) 0 (λ z. let y : ⊥ = omega arith in y))
    go (no e) =
        let f : suc (a % m) ≡ m = omega (arith, ltb-false (suc (a % m)) m e, mod-lt a h) in
        let g : m - suc (a % m) ≡ 0 = omega arith in
        rw (g, f, mod_self)

-- The check is of the position itself: it fails where the position's remainder by the counts per turn is not 0.
pub off_turn_is : (turn : ℕ) (p : ℤ) → 0 < turn → off_turn turn p ≡ not (eqb (mod_z p turn) 0)
unfolding off_turn mod_z
off_turn_is turn (pos a) h = rw (lt-ltb 0 turn h)
off_turn_is turn (negsuc a) h = rw (lt-ltb 0 turn h) (ap not (back_turns a turn h))
