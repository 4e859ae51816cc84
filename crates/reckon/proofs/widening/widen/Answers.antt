use mathlib.Core.Path.{◌≡◌, ◌∙◌}
use mathlib.Core.Bool.{Bool, true, ◌&&◌, and-eq-true_iff}
use native.Mathlib.Omega.{arith}
use Prim.Native.Nat.{◌*◌, ◌%◌, ℕ, ◌^◌, ◌≤◌}
use lib.IntN.{ℤ}
use lib.Pow.{pow_mono}
use Rattle.integers.proofs.Machine.{back}
use Rattle.integers.proofs.NumberLaws.{between}
use Rattle.position.specs.Position.{in_range, word_of}
use Rattle.position.proofs.PositionLaws.{word_holds}
use Rattle.reckon.specs.Widening.{good_width}
use Rattle.reckon.proofs.WideningLaws.{bad_place, bad_reading, by_word}
use Rattle.reckon.proofs.widening.widen.Goals as goal

-- the first two tests, of the width and of the old position
tested : (w : ℕ) (W : ℤ) {a b k : Bool} → a ≡ good_width w → b ≡ in_range W → (a && b) ≡ k → (good_width w && in_range W) ≡ k
tested w W p q h = rw (← p, ← q) h

both : (w : ℕ) (W : ℤ) {a b : Bool} → a ≡ good_width w → b ≡ in_range W → (a && b) ≡ true → (good_width w ≡ true) × (in_range W ≡ true)
both w W p q h = (and-eq-true_iff _ _).0 (tested w W p q h)

-- the turn, as the machine shifts it
turn : (w : ℕ) → good_width w ≡ true → (1 * 2 ^ w % 2 ^ 64 ≡ 2 ^ w) × (2 ^ w ≤ 2 ^ 32)
turn w h = let few : 2 ^ w ≤ 2 ^ 32 = pow_mono (between 2 32 _ h).1 in (omega arith, few)

pub returns-then-not-is_width-in_range : goal.returns-then-not-is_width-in_range
returns-then-not-is_width-in_range c =
    bad_place _ _ _ (tested c.args.width c.args.position c.is_width.ensures (rw (back c.ranges.position) at c.in_range.ensures) c.if-not-is_width-in_range.true)

pub returns-then-turn-reading : goal.returns-then-turn-reading
returns-then-turn-reading c =
    let b = both c.args.width c.args.position c.is_width.ensures (rw (back c.ranges.position) at c.in_range.ensures) c.if-not-is_width-in_range.false in
    bad_reading _ _ _ b.0 b.1 (rw (turn _ b.0).0 at c.if-turn-reading.true)

pub nearest-requires : goal.nearest-requires
nearest-requires c =
    let b = both c.args.width c.args.position c.is_width.ensures (rw (back c.ranges.position) at c.in_range.ensures) c.if-not-is_width-in_range.false in
    let t = turn c.args.width b.0 in
    let word : c.word_of.result ≡ word_of c.args.position = rw (back c.ranges.position) at c.word_of.ensures in
    (c.if-turn-reading.false, rw t.0 t.1, rw word (word_holds _ b.1).below)

pub returns : goal.returns
returns c =
    let b = both c.args.width c.args.position c.is_width.ensures (rw (back c.ranges.position) at c.in_range.ensures) c.if-not-is_width-in_range.false in
    let t = turn c.args.width b.0 in
    let word : c.word_of.result ≡ word_of c.args.position = rw (back c.ranges.position) at c.word_of.ensures in
    (rw (word, t.0) at c.nearest.ensures) ∙ by_word _ _ _ b.0 b.1 (rw t.0 at c.if-turn-reading.false)
