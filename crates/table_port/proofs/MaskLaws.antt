-- The laws of the masks that a port sample answers: docs/RULES.md, "A port sample".
use Prim.Native.Nat.{ℕ, zero, suc, ◌+◌, ◌-◌, ◌*◌, ◌/◌, ◌%◌, ◌^◌, ◌≤◌, ◌<◌}
use native.Mathlib.Nat.{lt_of_lt_of_le, eq-or-lt_of_le, le_of_suc-le-suc, div-eq_of_lt, pow-suc, mul-add-div_right}
use native.Mathlib.Omega.{arith}
use mathlib.Core.Path.{◌≡◌, refl, ap, ◌∙◌}
use mathlib.Core.Logic.{⊎_elim}
use mathlib.Core.Bool.{Bool, true, false}
use lib.Bits.{bit_or, or_shifted_r}
use lib.Dec.{eqb, lit<}
use lib.Pow.{pow_pos, pow-add, pow_mono, high, shl_exact}
use Rattle.fields.specs.Field.{flag_of}
use Rattle.table_port.specs.Port.{put_bit, mask_of}

-- A shift and an or put a bit above what a mask of 16 bits holds.
pub bit_put : (k m : ℕ) → k < 16 → m < 2 ^ k → bit_or m (1 * 2 ^ k % 2 ^ 16) ≡ m + 2 ^ k
bit_put k m h b = rw (shl_exact 1 k 16 (lit< tt) (omega arith)) (or_shifted_r 1 k m b ∙ omega arith)

-- A bit put to a mask that lies below it.
put_below : (m k : ℕ) (on : Bool) → m < 2 ^ k → put_bit m k on < 2 ^ suc k
unfolding put_bit
put_below m k true h = omega (arith, pow-suc 2 k)
put_below m k false h = omega (arith, pow-suc 2 k)

-- A mask of n rows lies below bit n.
pub mask_below : (n : ℕ) (f : ℕ → Bool) → mask_of n f < 2 ^ n
unfolding mask_of
mask_below zero f = omega arith
mask_below (suc n) f = put_below (mask_of n f) n (f n) (mask_below n f)

-- The bit that was put, and every bit below it.
put_same : (m k : ℕ) (on : Bool) → m < 2 ^ k → flag_of k (put_bit m k on) ≡ on
unfolding put_bit
put_same m k true h = let e : m + 2 ^ k ≡ 1 * 2 ^ k + m = omega arith in rw (e, high 1 k h)
put_same m k false h = rw (div-eq_of_lt h)

put_other : (m k j : ℕ) (on : Bool) → j < k → flag_of j (put_bit m k on) ≡ flag_of j m
unfolding put_bit
put_other m k j false h = refl
put_other m k j true h =
    let d : ℕ = k - suc j in
    let p : k ≡ suc d + j = omega arith in
    let w : 2 ^ k ≡ 2 ^ d * 2 * 2 ^ j = ap (λ (x : ℕ). 2 ^ x) p ∙ pow-add 2 (suc d) j ∙ ap (λ (x : ℕ). x * 2 ^ j) (pow-suc 2 d) in
    let e : m + 2 ^ k ≡ 2 ^ d * 2 * 2 ^ j + m = omega arith in
    let q : (m + 2 ^ k) / 2 ^ j ≡ 2 ^ d * 2 + m / 2 ^ j = ap (λ (x : ℕ). x / 2 ^ j) e ∙ mul-add-div_right (pow_pos j) (2 ^ d * 2) m in
    let r : (m + 2 ^ k) / 2 ^ j % 2 ≡ m / 2 ^ j % 2 = omega arith in
    ap (λ (x : ℕ). eqb x 1) r

-- Masks of rows that say the same are the same.
pub mask_same : (n : ℕ) (f g : ℕ → Bool) → ((k : ℕ) → k < n → f k ≡ g k) → mask_of n f ≡ mask_of n g
unfolding mask_of
mask_same zero f g e = refl
mask_same (suc n) f g e = rw (mask_same n f g (λ k h. e k (omega arith)), e n (omega arith))

-- Bit j of a mask of n rows is row j's.
pub mask_bit : (n : ℕ) (f : ℕ → Bool) (j : ℕ) → j < n → flag_of j (mask_of n f) ≡ f j
unfolding mask_of
mask_bit zero f j h = absurd (omega arith)
mask_bit (suc n) f j h =
    ⊎_elim (λ e. rw e (put_same (mask_of n f) n (f n) (mask_below n f)))
    (λ l. put_other (mask_of n f) n j (f n) l ∙ mask_bit n f j l)
    (eq-or-lt_of_le (le_of_suc-le-suc h))

-- A mask of n rows has no bit at n or above.
pub mask_above : (n : ℕ) (f : ℕ → Bool) (j : ℕ) → n ≤ j → flag_of j (mask_of n f) ≡ false
mask_above n f j h = rw (div-eq_of_lt (lt_of_lt_of_le (mask_below n f) (pow_mono h)))
