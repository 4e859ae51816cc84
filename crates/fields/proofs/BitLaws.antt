-- The laws of a field that is read by a shift and a mask and put by a shift and an or, over its place and its width.
use Prim.Native.Nat.{ℕ, ◌+◌, ◌*◌, ◌-◌, ◌/◌, ◌%◌, ◌^◌, ◌<◌}
use native.Mathlib.Nat.{one-mul, mod-lt, mod-eq_of_lt, add_comm, zero-div, zero-mod}
use native.Mathlib.Omega.{arith}
use mathlib.Core.Path.{◌≡◌, sym, ap, ◌∙◌}
use mathlib.Core.Bool.{false}
use lib.Dec.{eqb, lit<}
use lib.Pow.{field, mod-mod-pow, pow_pos, shl_exact, shr-shr}
use lib.Bits.{bit_and, bit_or, and_mask, or_shifted_r}
use Rattle.fields.specs.Field.{field_of, flag_of}

-- The one that a mask is made of is shifted with no bit lost.
pub one_shl : (width : ℕ) → width < 64 → 1 * 2 ^ width % 2 ^ 64 ≡ 2 ^ width
one_shl width h = shl_exact 1 width 64 (lit< tt) (omega arith) ∙ one-mul (2 ^ width)

-- A field is below 2 to its width.
pub field_below : (at width w : ℕ) → field_of at width w < 2 ^ width
field_below at width w = mod-lt (w / 2 ^ at) (pow_pos width)

-- A shift down and a mask read a field.
pub masked : (at width w : ℕ) → width < 64 → bit_and (w / 2 ^ at) (1 * 2 ^ width % 2 ^ 64 - 1) ≡ field_of at width w
masked at width w h = rw (one_shl width h) (and_mask (w / 2 ^ at) width)

-- What a shift and an or put at a bit above `low` is added to it.
pub placed : (at low x : ℕ) → low < 2 ^ at → low + x * 2 ^ at < 2 ^ 64 → bit_or low (x * 2 ^ at % 2 ^ 64) ≡ low + x * 2 ^ at
placed at low x h k =
    let e : x * 2 ^ at % 2 ^ 64 ≡ x * 2 ^ at = mod-eq_of_lt (omega arith) in
    rw e (or_shifted_r x at low h ∙ add_comm (x * 2 ^ at) low)

-- A field of a field is a field of the word.
pub part : (at above k d w : ℕ) → field_of d k (field_of at (above + k + d) w) ≡ field_of (at + d) k w
part at above k d w =
    rw (field (w / 2 ^ at) (above + k) d, mod-mod-pow (w / 2 ^ at / 2 ^ d) above k, shr-shr w at d)

-- Each part of a field that is 0 is 0.
pub part_zero : (at above k d w : ℕ) → field_of at (above + k + d) w ≡ 0 → field_of (at + d) k w ≡ 0
part_zero at above k d w h =
    sym (part at above k d w) ∙ ap (field_of d k) h ∙ rw (zero-div (2 ^ d), zero-mod (2 ^ k))

-- Each flag in it is clear.
pub part_clear : (at above d w : ℕ) → field_of at (above + 1 + d) w ≡ 0 → flag_of (at + d) w ≡ false
part_clear at above d w h = ap (λ (x : ℕ). eqb x 1) (part_zero at above 1 d w h)
