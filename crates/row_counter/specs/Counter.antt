-- A narrow counter through time: docs/RULES.md, "Calls that name one axis", Reading. The shaft's true positions are listed newest first.
use Rattle.std.specs.Prelude.{ℕ, ◌*◌, ◌^◌, ◌<◌, ◌≡◌, true, List, [], ◌∷◌, ℤ, nat_abs, ◌-ℤ◌}
use Rattle.integers.specs.Integer.{mod_z}
use Rattle.position.specs.Position.{in_range, word_of}
use Rattle.axis.specs.Row.{axis_of, fresh_at}
use Rattle.axis_sound.specs.Sound.{status_of, counter_of}
use Rattle.axis.specs.declared.row.Row.{Row}
use Rattle.axis_sound.specs.declared.Status.TheVariants.{Counter}
use Rattle.row_calls.specs.Calls.{left_by}
use Rattle.row_counter.specs.Reading.{read_row}

-- The newest position, or the one before them all.
abbrev pub newest : ℤ → List ℤ → ℤ
newest W [] = W
newest W (p ∷ ps) = p

-- What a counter of w bits shows at a position: its low bits.
abbrev pub low_bits : ℕ → ℤ → ℕ
low_bits w p = mod_z p (2 ^ w)

-- The row after a reading at each of the positions.
unfoldable pub row_read : ℕ → Row → List ℤ → Row
row_read w r [] = r
row_read w r (p ∷ ps) = left_by (row_read w r ps) (read_row (low_bits w p) (row_read w r ps))

-- From the position W on, the shaft stays in the range and moves less than half a turn of the counter from reading to reading.
pub data UnderHalf (w : ℕ) (W : ℤ) : List ℤ → Type 0 where
  still : UnderHalf w W []
  polled : (p : ℤ) (ps : List ℤ) → in_range p ≡ true → 2 * nat_abs (p -ℤ newest W ps) < 2 ^ w → UnderHalf w W ps → UnderHalf w W (p ∷ ps)

-- A counter row of w bits at a position.
pub record CounterAt (w : ℕ) (p : ℤ) (q : Row) : Type 0 where
  pub status : status_of q ≡ Counter
  pub axis : axis_of q ≡ fresh_at (counter_of w) (word_of p)
