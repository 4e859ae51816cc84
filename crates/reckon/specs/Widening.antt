-- Widening a reading: docs/RULES.md, "Calls that name one axis", Reading.
use Rattle.std.specs.Prelude.{Bool, cond, ◌&&◌, ℕ, ◌+◌, ◌*◌, ◌-◌, ◌%◌, ◌^◌, ltb, leb, eqb, ℤ, pos, ◌+ℤ◌, ◌-ℤ◌, Result, Ok, Err}
use Rattle.integers.specs.Integer.{mod_z}
use Rattle.position.specs.Position.{in_range}
use Rattle.refusal.specs.declared.Refusal.TheVariants.{Value, Half, Range}
use Rattle.refusal.specs.declared.Refusal.{Refusal}

-- A counter has 2 to 32 bits.
abbrev pub good_width : ℕ → Bool
good_width w = leb 2 w && leb w 32

-- VALUE is for a width, an old position or a reading outside its limits.
unfoldable pub good_reading : ℕ → ℤ → ℕ → Bool
good_reading w W r = good_width w && in_range W && ltb r (2 ^ w)

-- A widened position outside the range is RANGE.
unfoldable pub or_range : ℤ → Result ℤ Refusal
or_range p = cond (in_range p) (Ok p) (Err Range)

-- From W, a reading d ahead in a turn: below half it is W + d, at half HALF, above half W + d less a turn.
unfoldable pub nearest_to : ℕ → ℤ → ℕ → Result ℤ Refusal
nearest_to turn W d =
    cond (ltb (2 * d) turn) (or_range (W +ℤ pos d))
    (cond (eqb (2 * d) turn) (Err Half)
    (or_range ((W +ℤ pos d) -ℤ pos turn)))

-- The reading r of a counter of w bits whose last position was W.
unfoldable pub widened : ℕ → ℤ → ℕ → Result ℤ Refusal
widened w W r =
    cond (good_reading w W r) (nearest_to (2 ^ w) W (mod_z (pos r -ℤ W) (2 ^ w))) (Err Value)

-- The same distance ahead, by the word that holds a position.
abbrev pub ahead_of : ℕ → ℕ → ℕ → ℕ
ahead_of turn word r = (r + (turn - word % turn)) % turn
