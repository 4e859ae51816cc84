-- The count: docs/RULES.md, "A port sample", Count.
use Rattle.std.specs.Prelude.{ℕ, ◌+◌, ◌-◌, ◌^◌, min, Bool, true, cond, ltb}
use Rattle.axis_decode.specs.Decode.{is_e}
use Rattle.axis_count.specs.declared.Counted.{Counted}
use Rattle.axis_decode.specs.declared.Move.{Move}
use Rattle.axis_decode.specs.declared.Move.TheVariants.{Still, Forward, Back, Double}

-- Word 0 after an entry: + and - change it by 1, unless the position would leave its range.
unfoldable pub counted_word : Move → ℕ → ℕ
counted_word Still w = w
counted_word Forward w = cond (ltb w (2 ^ 63 - 1)) (w + 1) w
counted_word Back w = cond (ltb 1 w) (w - 1) w
counted_word Double w = w

-- RANGE after an entry: set where the position would have left its range.
unfoldable pub counted_range : Move → ℕ → Bool → Bool
counted_range Still w r = r
counted_range Forward w r = cond (ltb w (2 ^ 63 - 1)) r true
counted_range Back w r = cond (ltb 1 w) r true
counted_range Double w r = r

-- Word 0 and RANGE after an entry.
abbrev pub counted_by : Move → ℕ → Bool → Counted
counted_by m w r = record { word = counted_word m w; range = counted_range m w r }

-- Doubles after an entry: E adds 1, up to 65,535.
unfoldable pub counted_doubles : Move → ℕ → ℕ
counted_doubles m n = cond (is_e m) (min 65535 (n + 1)) n
