-- What widening means: the one value nearest W with low bits r; the true position, where it moved less than half a turn; HALF at half a
-- turn.
use Rattle.std.specs.Prelude.{Result, Ok, Err}
use mathlib.Core.Path.{◌≡◌, sym, ◌∙◌, subst}
use mathlib.Core.Bool.{true, cond}
use mathlib.Core.Logic.{◌⊎◌, inl, inr, ⊎_elim}
use Prim.Native.Nat.{ℕ, ◌+◌, ◌*◌, ◌-◌, ◌^◌, ◌<◌}
use native.Mathlib.Nat.{mod-eq_of_lt}
use native.Mathlib.Omega.{arith}
use borrow.Author.Tests.{ltb-true, ltb-false, eqb-true, eqb-false}
use lib.Dec.{ltb, eqb}
use lib.IntN.{ℤ, pos, nat_abs, ◌+ℤ◌, ◌-ℤ◌}
use lib.Pow.{pow_pos}
use Rattle.integers.specs.Integer.{plus, minus, mod_z}
use Rattle.integers.proofs.Balance.{eq_z, bal_add, bal_sub, mod_z_lt, Turns, turns, mod_turns, near_one, Decided, yes, no, test}
use Rattle.integers.proofs.NumberLaws.{far_cases, far_sub}
use Rattle.position.specs.Position.{in_range}
use Rattle.refusal.specs.declared.Refusal.TheVariants.{Value, Half, Range}
use Rattle.reckon.specs.Widening.{good_width, good_reading, or_range, nearest_to, widened}
use Rattle.reckon.specs.Nearest.{Nearest, Verdict, value, half, range, at}
use Rattle.reckon.proofs.ReckonedLaws.{refused_not}
use Rattle.reckon.proofs.WideningLaws.{good_is, good_from, accepted, below_half, above_half, at_half}
use Rattle.refusal.specs.declared.Refusal.{Refusal}

-- ---- where a position p lies from W: t ahead, or t behind, its low bits r

module _ (w : ℕ) (W p : ℤ) where
  abbrev m : ℕ
  m = 2 ^ w

  abbrev r : ℕ
  r = mod_z p m

  abbrev t : ℕ
  t = nat_abs (p -ℤ W)

  abbrev ahead : ℕ
  ahead = mod_z (pos r -ℤ W) m

  low : Turns p m r
  low = turns p (pow_pos w)

  -- ahead of W, or behind it, and then a turn less than it is ahead
  sides : t < m → ((ahead ≡ t) × (W +ℤ pos t ≡ p)) ⊎ ((ahead ≡ m - t) × ((W +ℤ pos (m - t)) -ℤ pos m ≡ p))
  sides l = ⊎_elim up (λ e. down e (test (ltb 0 t))) (far_cases p W)
    where
      up : plus p + minus W ≡ t + (plus W + minus p) →
          ((ahead ≡ t) × (W +ℤ pos t ≡ p)) ⊎ ((ahead ≡ m - t) × ((W +ℤ pos (m - t)) -ℤ pos m ≡ p))
      up e = inl (
        mod_turns {z = pos r -ℤ W} {t = t} (pow_pos w)
            (record { up = low.down; down = low.up; is = omega (arith, low.is, bal_sub (pos r) W) })
            ∙ mod-eq_of_lt l,
        eq_z _ _ (omega (arith, bal_add W (pos t))),
      )

      down : plus W + minus p ≡ t + (plus p + minus W) → Decided (ltb 0 t) →
          ((ahead ≡ t) × (W +ℤ pos t ≡ p)) ⊎ ((ahead ≡ m - t) × ((W +ℤ pos (m - t)) -ℤ pos m ≡ p))
      down e (no z) = up (omega (arith, ltb-false 0 t z))
      down e (yes z) = let some = ltb-true 0 t z in inr (
        mod_turns {z = pos r -ℤ W} {t = m - t} (pow_pos w)
            (record { up = low.down + 1; down = low.up; is = omega (arith, low.is, bal_sub (pos r) W) })
            ∙ mod-eq_of_lt (omega arith),
        eq_z _ _ (omega (arith, bal_add W (pos (m - t)), bal_sub (W +ℤ pos (m - t)) (pos m))),
      )

-- ---- a value p with the reading as its low bits

module _ (w : ℕ) (W p : ℤ) (good : good_reading w W (mod_z p (2 ^ w)) ≡ true) where
  near_is : nearest_to (2 ^ w) W (ahead w W p) ≡ widened w W (mod_z p (2 ^ w))
  near_is = accepted w W (mod_z p (2 ^ w)) good

  near_position : 2 * nat_abs (p -ℤ W) < 2 ^ w → widened w W (mod_z p (2 ^ w)) ≡ or_range p
  near_position near =
      sym near_is
      ∙ ⊎_elim (λ h. rw h.0 (below_half _ W p _ near h.1)) (λ h. rw h.0 (above_half _ W p _ (omega arith) h.1))
      (sides w W p (omega arith))

  half_position : 2 * nat_abs (p -ℤ W) ≡ 2 ^ w → widened w W (mod_z p (2 ^ w)) ≡ Err Half
  half_position h =
      sym near_is
      ∙ ⊎_elim (λ k. rw k.0 (at_half _ W _ h)) (λ k. rw k.0 (at_half _ W _ (omega arith))) (sides w W p (omega (arith, pow_pos w)))

-- ---- the value that a good reading leads to

module _ (w : ℕ) (W : ℤ) (r : ℕ) (good : good_reading w W r ≡ true) where
  abbrev d : ℕ
  d = mod_z (pos r -ℤ W) (2 ^ w)

  -- a value that is W + d but for k turns has r as its low bits
  bits : (p : ℤ) (k : ℕ) → plus p + minus W + k * 2 ^ w ≡ plus W + minus p + d → mod_z p (2 ^ w) ≡ r
  bits p k e =
      let g = turns (pos r -ℤ W) (pow_pos w) in
      mod_turns (pow_pos w) (record { up = g.down + k; down = g.up; is = omega (arith, g.is, bal_sub (pos r) W) })
      ∙ mod-eq_of_lt (good_is w W r good).small

  -- from such a value to the verdict, by whether it is in the range
  settled : (p : ℤ) → mod_z p (2 ^ w) ≡ r → 2 * nat_abs (p -ℤ W) < 2 ^ w → Verdict w W r (widened w W r)
  unfolding or_range
  settled p b l = go (test (in_range p)) (rw b at (near_position w W p (rw b good) l))
    where
      go : Decided (in_range p) → widened w W r ≡ cond (in_range p) (Ok p) (Err Range) → Verdict w W r (widened w W r)
      go (yes e) q = at good p b l e (rw e at q)
      go (no e) q = range good p b l e (rw e at q)

  good_verdict : Verdict w W r (widened w W r)
  good_verdict = go (test (ltb (2 * d) (2 ^ w))) (test (eqb (2 * d) (2 ^ w)))
    where
      p : ℤ
      p = W +ℤ pos d

      q : ℤ
      q = p -ℤ pos (2 ^ w)

      up : mod_z p (2 ^ w) ≡ r
      up = bits p 0 (omega (arith, bal_add W (pos d)))

      far : nat_abs (p -ℤ W) ≡ d
      far = ⊎_elim (λ h. omega (arith, h, bal_add W (pos d))) (λ h. omega (arith, h, bal_add W (pos d))) (far_cases p W)

      go : Decided (ltb (2 * d) (2 ^ w)) → Decided (eqb (2 * d) (2 ^ w)) → Verdict w W r (widened w W r)
      go (yes e) f = settled p up (omega (arith, far, ltb-true (2 * d) (2 ^ w) e))
      go (no e) (yes f) =
          let h : 2 * nat_abs (p -ℤ W) ≡ 2 ^ w = omega (arith, far, eqb-true (2 * d) (2 ^ w) f) in
          half good p up h (rw up at (half_position w W p (rw up good) h))
      go (no e) (no f) =
          let h = ltb-false (2 * d) (2 ^ w) e in
          let k = eqb-false (2 * d) (2 ^ w) f in
          let l = mod_z_lt (pos r -ℤ W) (pow_pos w) in
          let x = bal_add W (pos d) in
          let y = bal_sub p (pos (2 ^ w)) in
          settled q (bits q 1 (omega arith)) (⊎_elim (λ z. omega (arith, z)) (λ z. omega (arith, z)) (far_cases q W))

-- Every answer is given for its reason, VALUE before HALF before RANGE, over every width, old position and reading.
pub verdict : (w : ℕ) (W : ℤ) (r : ℕ) → Verdict w W r (widened w W r)
verdict w W r = go (test (good_reading w W r))
  where
    go : Decided (good_reading w W r) → Verdict w W r (widened w W r)
    go (yes e) = good_verdict w W r e
    go (no e) = value e (unfold widened in rw e)

-- And wherever a reason holds, its answer is given.
pub verdict_only : (w : ℕ) (W : ℤ) (r : ℕ) (a : Result ℤ Refusal) → Verdict w W r a → widened w W r ≡ a
unfolding widened or_range
verdict_only w W r a (value g e) = rw g (sym e)
verdict_only w W r a (half g p b h e) = rw b at (half_position w W p (rw b g) h) ∙ sym e
verdict_only w W r a (range g p b l i e) = rw (b, i) at (near_position w W p (rw b g) l) ∙ sym e
verdict_only w W r a (at g p b l i e) = rw (b, i) at (near_position w W p (rw b g) l) ∙ sym e

module _ (w : ℕ) (W p : ℤ) (wide : good_width w ≡ true) (okW : in_range W ≡ true) where
  good_low : good_reading w W (mod_z p (2 ^ w)) ≡ true
  good_low = good_from w W (mod_z p (2 ^ w)) wide okW (mod_z_lt p (pow_pos w))

  -- Where the true position p lies in the range and less than half a turn from W, its low bits widen to it, below zero too.
  pub true_position : in_range p ≡ true → 2 * nat_abs (p -ℤ W) < 2 ^ w → widened w W (mod_z p (2 ^ w)) ≡ Ok p
  unfolding or_range
  true_position ok near = rw ok at (near_position w W p good_low near)

  -- Exactly half a turn is HALF, whichever way the shaft turned, near the limits of the range and beyond them too.
  pub half_turn : 2 * nat_abs (p -ℤ W) ≡ 2 ^ w → widened w W (mod_z p (2 ^ w)) ≡ Err Half
  half_turn = half_position w W p good_low

-- ---- what an answer says

only : (w : ℕ) (W z : ℤ) (r : ℕ) → mod_z z (2 ^ w) ≡ r → 2 * nat_abs (z -ℤ W) < 2 ^ w → (y : ℤ) → mod_z y (2 ^ w) ≡ r →
    (y ≡ z) ⊎ (nat_abs (z -ℤ W) < nat_abs (y -ℤ W))
only w W z r b n y e = go (test (ltb (nat_abs (z -ℤ W)) (nat_abs (y -ℤ W))))
  where
    at_r : (x : ℤ) → mod_z x (2 ^ w) ≡ r → Turns x (2 ^ w) r
    at_r x q = subst (Turns x (2 ^ w)) q (turns x (pow_pos w))

    go : Decided (ltb (nat_abs (z -ℤ W)) (nat_abs (y -ℤ W))) → (y ≡ z) ⊎ (nat_abs (z -ℤ W) < nat_abs (y -ℤ W))
    go (yes f) = inr (ltb-true _ _ f)
    go (no f) =
        let l = ltb-false (nat_abs (z -ℤ W)) (nat_abs (y -ℤ W)) f in
        let h = far_sub z W in
        let k = far_sub y W in
        inl (near_one (at_r y e) (at_r z b) (omega arith) (omega arith))

-- An answer lies in the range, and is the one value nearest W with low bits r: any other is strictly farther.
pub nearest : (w : ℕ) (W z : ℤ) (r : ℕ) → widened w W r ≡ Ok z → (in_range z ≡ true) × Nearest w W r z
nearest w W z r h = go (verdict w W r)
  where
    go : Verdict w W r (widened w W r) → (in_range z ≡ true) × Nearest w W r z
    go (value g e) = absurd (refused_not z Value (sym e ∙ h))
    go (half g p b l e) = absurd (refused_not z Half (sym e ∙ h))
    go (range g p b l i e) = absurd (refused_not z Range (sym e ∙ h))
    go (at g p b l i e) =
        let q : p ≡ z = cc in
        (rw q at i, record { bits = rw q at b; less = rw q at l; one = only w W z r (rw q at b) (rw q at l) })

-- A value in the range that has the low bits of a good reading and lies nearest W in this sense is the answer.
pub nearest_only : (w : ℕ) (W z : ℤ) (r : ℕ) → good_width w ≡ true → in_range W ≡ true → in_range z ≡ true → Nearest w W r z →
    widened w W r ≡ Ok z
nearest_only w W z r wide okW ok n = rw n.bits at (true_position w W z wide okW ok n.less)

-- Any other value with the low bits of a reading lies strictly farther from W than the answer.
pub others_farther : (w : ℕ) (W z y : ℤ) (r : ℕ) → widened w W r ≡ Ok z → mod_z y (2 ^ w) ≡ r → (y ≡ z → ⊥) →
    nat_abs (z -ℤ W) < nat_abs (y -ℤ W)
others_farther w W z y r h e other = ⊎_elim (λ q. absurd (other q)) (λ l. l) ((nearest w W z r h).1.one y e)
