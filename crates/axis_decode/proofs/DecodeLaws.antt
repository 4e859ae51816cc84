-- The laws of the code's tables: docs/RULES.md, "A port sample", Decode.
use Prim.Native.Nat.{ℕ, zero, suc}
use mathlib.Core.Path.{◌≡◌, refl, sym, ap, ◌∙◌}
use mathlib.Core.Bool.{cond}
use mathlib.Core.List.{List, [], ◌∷◌, map}
use lib.Dec.{eqb}
use lib.ListN.{get_or}
use lib.IntN.{ℤ, pos}
use mir.Syntax.{w8}
use mir.Val.{of_z, to_z}
use Rattle.axis_decode.specs.Decode.{entry_in, mark}
use Rattle.axis_decode.specs.declared.Move.{Move}
use Rattle.axis_decode.specs.declared.Move.TheVariants.{Still, Forward, Back, Double}

-- The marks of a list of entries, read at a place.
pub read : (ms : List Move) (at : ℕ) → to_z w8 (of_z w8 (get_or (map mark ms) at (pos 0))) ≡ mark (get_or ms at Still)
unfolding mark
read [] at = refl
read (Still ∷ ms) zero = refl
read (Forward ∷ ms) zero = refl
read (Back ∷ ms) zero = refl
read (Double ∷ ms) zero = refl
read (m ∷ ms) (suc at) = read ms at

-- So are the lines of a table, read at two places.
pub read_in_lem : (rows : List (List Move)) (old new : ℕ) →
    to_z w8 (of_z w8 (get_or (get_or (map (map mark) rows) old []) new (pos 0))) ≡ mark (entry_in rows old new)
unfolding mark
read_in_lem [] old new = refl
read_in_lem (ms ∷ rows) zero new = read ms new
read_in_lem (ms ∷ rows) (suc old) new = read_in_lem rows old new

-- The entry that the code tells from the byte of a mark.
abbrev pub told : ℕ → Move
told n = cond (eqb n 0) Still (cond (eqb n 1) Forward (cond (eqb n 2) Double Back))

-- It is the entry marked.
pub told_mark : (m : Move) → told (of_z w8 (mark m)) ≡ m
unfolding mark
told_mark Still = refl
told_mark Forward = refl
told_mark Back = refl
told_mark Double = refl

-- So what the code tells from a mark that was read is the entry.
pub told_is : {m : Move} {z : ℤ} (n : ℕ) → z ≡ mark m → of_z w8 z ≡ n → told n ≡ m
told_is {m} n e h = ap told (sym h) ∙ ap (λ (z : ℤ). told (of_z w8 z)) e ∙ told_mark m
