-- The laws of the count: docs/RULES.md, "A port sample", Count.
use Prim.Native.Nat.{ℕ, ◌+◌, ◌-◌, ◌^◌, ◌<◌, ◌≤◌, min}
use mathlib.Core.Path.{◌≡◌, refl, sym, ap, ◌∙◌}
use mathlib.Core.Bool.{Bool, true, false, cond, true≢false}
use native.Mathlib.Omega.{arith}
use borrow.Author.Tests.{ltb-true, lt-ltb}
use lib.Dec.{ltb}
use lib.IntN.{ℤ, pos, negsuc, ◌+ℤ◌, +ℤ_idr}
use Rattle.integers.proofs.Balance.{bal_add, eq_z}
use Rattle.position.specs.Position.{in_range, Word, position_of}
use Rattle.position.proofs.PositionLaws.{bal_position, range_is, position_in_range}
use Rattle.axis_decode.specs.Decode.{worth, is_e}
use Rattle.axis_count.specs.Count.{counted_word, counted_range, counted_doubles}
use Rattle.axis_decode.specs.declared.Move.{Move}
use Rattle.axis_decode.specs.declared.Move.TheVariants.{Still, Forward, Back, Double}

-- ---- a step that is taken where a test passes, and held where it does not

word_by : (t : Bool) (w next : ℕ) → Word w → (t ≡ true → Word next) → Word (cond t next w)
word_by true w next h step = step refl
word_by false w next h step = h

held_by : (t r : Bool) (w next : ℕ) (z : ℤ) → (t ≡ true → in_range z ≡ true) → in_range z ≡ false →
    (cond t next w ≡ w) × (cond t r true ≡ true)
held_by true r w next z inside h = absurd (true≢false (sym (inside refl) ∙ h))
held_by false r w next z inside h = (refl, refl)

counted_by_lem : (t r : Bool) (w next : ℕ) (d : ℤ) → (t ≡ true → position_of next ≡ position_of w +ℤ d) → cond t r true ≡ false →
    (r ≡ false) × (position_of (cond t next w) ≡ position_of w +ℤ d)
counted_by_lem true r w next d lands e = (e, lands refl)
counted_by_lem false r w next d lands e = absurd (true≢false e)

-- ---- the two steps, and no step

up : (w : ℕ) → position_of (w + 1) ≡ position_of w +ℤ pos 1
up w = eq_z _ _ (omega (arith, bal_position w, bal_position (w + 1), bal_add (position_of w) (pos 1)))

down : (w : ℕ) → 0 < w → position_of (w - 1) ≡ position_of w +ℤ negsuc 0
down w h = eq_z _ _ (omega (arith, bal_position w, bal_position (w - 1), bal_add (position_of w) (negsuc 0)))

room_up : (w : ℕ) → in_range (position_of w +ℤ pos 1) ≡ true → w < 2 ^ 63 - 1
room_up w h = omega (arith, range_is (position_of w +ℤ pos 1) h, bal_position w, bal_add (position_of w) (pos 1))

room_down : (w : ℕ) → in_range (position_of w +ℤ negsuc 0) ≡ true → 1 < w
room_down w h = omega (arith, range_is (position_of w +ℤ negsuc 0) h, bal_position w, bal_add (position_of w) (negsuc 0))

stays : (w : ℕ) → position_of w ≡ position_of w +ℤ pos 0
stays w = sym (+ℤ_idr (position_of w))

room_here : (w : ℕ) → Word w → in_range (position_of w +ℤ pos 0) ≡ true
room_here w h = ap in_range (sym (stays w)) ∙ position_in_range w h

-- ---- the count

-- A count leaves a word that holds a position.
pub count_keeps : (m : Move) (w : ℕ) → Word w → Word (counted_word m w)
unfolding counted_word
count_keeps Still w h = h
count_keeps Double w h = h
count_keeps Forward w h = word_by (ltb w (2 ^ 63 - 1)) w (w + 1) h (λ t. record { above = omega arith; below = omega (arith, ltb-true) })
count_keeps Back w h = word_by (ltb 1 w) w (w - 1) h (λ t. record { above = omega (arith, ltb-true); below = omega arith })

-- An entry whose step stays in the range moves the position by what it is worth, and leaves RANGE.
pub moves : (m : Move) (w : ℕ) (r : Bool) → in_range (position_of w +ℤ worth m) ≡ true →
    (position_of (counted_word m w) ≡ position_of w +ℤ worth m) × (counted_range m w r ≡ r)
unfolding counted_range counted_word worth
moves Still w r h = (stays w, refl)
moves Double w r h = (stays w, refl)
moves Forward w r h = rw (lt-ltb w (2 ^ 63 - 1) (room_up w h)) (up w, refl)
moves Back w r h = rw (lt-ltb 1 w (room_down w h)) (down w (omega (arith, room_down w h)), refl)

-- An entry whose step would leave the range holds the position, and sets RANGE.
pub holds : (m : Move) (w : ℕ) (r : Bool) → Word w → in_range (position_of w +ℤ worth m) ≡ false →
    (counted_word m w ≡ w) × (counted_range m w r ≡ true)
unfolding counted_range counted_word worth
holds Still w r k h = absurd (true≢false (sym (room_here w k) ∙ h))
holds Double w r k h = absurd (true≢false (sym (room_here w k) ∙ h))
holds Forward w r k h =
    held_by (ltb w (2 ^ 63 - 1)) r w (w + 1) (position_of w +ℤ pos 1)
    (λ t. ap in_range (sym (up w)) ∙ position_in_range (w + 1) (record { above = omega arith; below = omega (arith, ltb-true) }))
    h
holds Back w r k h =
    held_by (ltb 1 w) r w (w - 1) (position_of w +ℤ negsuc 0)
    (λ t. ap in_range (sym (down w k.above))
    ∙ position_in_range (w - 1) (record { above = omega (arith, ltb-true); below = omega (arith, k.below) }))
    h

-- A count that leaves RANGE clear found it clear, and moves the position by what the entry is worth.
pub counted : (m : Move) (w : ℕ) (r : Bool) → counted_range m w r ≡ false →
    (r ≡ false) × (position_of (counted_word m w) ≡ position_of w +ℤ worth m)
unfolding counted_range counted_word worth
counted Still w r e = (e, stays w)
counted Double w r e = (e, stays w)
counted Forward w r e = counted_by_lem (ltb w (2 ^ 63 - 1)) r w (w + 1) (pos 1) (λ t. up w) e
counted Back w r e = counted_by_lem (ltb 1 w) r w (w - 1) (negsuc 0) (λ t. down w (omega (arith, ltb-true))) e

-- At position 0 with RANGE clear every entry counts, and RANGE stays clear.
pub from_origin : (m : Move) → (position_of (counted_word m (2 ^ 62)) ≡ worth m) × (counted_range m (2 ^ 62) false ≡ false)
unfolding counted_word counted_range worth position_of
from_origin Still = (refl, refl)
from_origin Forward = (refl, refl)
from_origin Back = (refl, refl)
from_origin Double = (refl, refl)

-- Doubles grow by 1 at each double step, and stop at 65,535.
pub doubles_count : (m : Move) (n : ℕ) → n ≤ 65535 → counted_doubles m n ≡ min 65535 (n + cond (is_e m) 1 0)
unfolding counted_doubles
doubles_count m n h = go (is_e m)
  where
    go : (b : Bool) → cond b (min 65535 (n + 1)) n ≡ min 65535 (n + cond b 1 0)
    go true = refl
    go false = omega arith

-- So they keep to their sixteen bits.
pub doubles_below : (m : Move) (n : ℕ) → n < 2 ^ 16 → counted_doubles m n < 2 ^ 16
doubles_below m n h = omega (arith, doubles_count m n (omega arith))
