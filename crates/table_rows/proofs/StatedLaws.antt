-- What docs/RULES.md states of a table, "One row, four words", computed to its end.
use Rattle.std.specs.Prelude.{Ok, Err}
use Prim.Native.Nat.{ℕ}
use mathlib.Core.Path.{◌≡◌, refl}
use mathlib.Core.List.{List, [], ◌∷◌, map}
use Rattle.axis.specs.Limit.{most_axes}
use Rattle.refusal.specs.declared.Refusal.TheVariants.{Length, Axis}
use Rattle.table_rows.specs.Table.{axes_in, row_at, set_row}
use Rattle.table_rows.specs.Located.{located}

-- 4n words are n axes for n from 1 to 16, and any other length none.
pub axes_stated :
    map axes_in (0 ∷ 1 ∷ 3 ∷ 4 ∷ 5 ∷ 6 ∷ 8 ∷ 60 ∷ 63 ∷ 64 ∷ 65 ∷ 68 ∷ 128 ∷ []) ≡ 0 ∷ 0 ∷ 0 ∷ 1 ∷ 0 ∷ 0 ∷ 2 ∷ 15 ∷ 0 ∷ 16 ∷ 0 ∷ 0 ∷ 0 ∷ []
unfolding axes_in most_axes
axes_stated = refl

-- Of eight words the first four are row 0 and the others row 1, in order; there is no axis 2, and three words are no table.
pub rows_stated :
    let t : List ℕ = 10 ∷ 11 ∷ 12 ∷ 13 ∷ 20 ∷ 21 ∷ 22 ∷ 23 ∷ [] in
    map (located t) (0 ∷ 1 ∷ 2 ∷ [])
    ≡ Ok (record { w0 = 10; w1 = 11; w2 = 12; w3 = 13 }) ∷ Ok (record { w0 = 20; w1 = 21; w2 = 22; w3 = 23 }) ∷ Err Axis ∷ []
    × located (10 ∷ 11 ∷ 12 ∷ []) 0 ≡ Err Length
    × set_row t 1 (record { w0 = 1; w1 = 2; w2 = 3; w3 = 4 }) ≡ 10 ∷ 11 ∷ 12 ∷ 13 ∷ 1 ∷ 2 ∷ 3 ∷ 4 ∷ []
unfolding located axes_in most_axes row_at set_row
rows_stated = (refl, refl, refl)
