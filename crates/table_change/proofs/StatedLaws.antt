-- What docs/RULES.md states of a call on a table, computed to its end word by word: "One row, four words", "Reasons for saying no".
use Rattle.std.specs.Prelude.{Result, Ok, Err, ⊤}
use Prim.Native.Nat.{ℕ, ◌+◌, ◌^◌}
use mathlib.Core.Path.{◌≡◌}
use mathlib.Core.List.{List, [], ◌∷◌}
use Rattle.refusal.specs.declared.Refusal.TheVariants.{Length, Axis}
use Rattle.axis.specs.Limit.{most_axes}
use Rattle.axis_sound.specs.Sound.{status_of}
use Rattle.row_calls.specs.Change.{changed}
use Rattle.row_calls.specs.Calls.{arm_row}
use Rattle.row_calls.proofs.StatedLaws.{ARMED}
use Rattle.table_rows.specs.Table.{axes_in, row_at, set_row}
use Rattle.table_rows.specs.Located.{located}
use Rattle.table_change.specs.Making.{table_after, Makes}
use Rattle.refusal.specs.declared.Refusal.{Refusal}

-- A table of three: an x4 axis, a counter and an x1 axis.
abbrev three : List ℕ
three = (2 ^ 62 + 1) ∷ 52 ∷ 0 ∷ 4096 ∷ (2 ^ 62 + 250) ∷ 2056 ∷ 0 ∷ 0 ∷ (2 ^ 62 + 3) ∷ 17 ∷ 0 ∷ 5 ∷ []

-- An arm of axis 2 sets bit 15 of word 9 and leaves the eleven others; one of axis 3 is AXIS, and one in a table that lacks a word LENGTH,
-- and they leave every word.
pub table_stated : {u v w : List ℕ} {a b c : Result ⊤ Refusal} →
    Makes arm_row three 2 u a → Makes arm_row three 3 v b → Makes arm_row (17 ∷ 0 ∷ 5 ∷ []) 0 w c →
    ((a ≡ Ok tt) × (u ≡ (2 ^ 62 + 1) ∷ 52 ∷ 0 ∷ 4096 ∷ (2 ^ 62 + 250) ∷ 2056 ∷ 0 ∷ 0 ∷ (2 ^ 62 + 3) ∷ (17 + ARMED) ∷ 0 ∷ 5 ∷ []))
    × ((b ≡ Err Axis) × (v ≡ three))
    × ((c ≡ Err Length) × (w ≡ 17 ∷ 0 ∷ 5 ∷ []))
unfolding most_axes status_of changed arm_row axes_in row_at set_row located table_after
table_stated x y z = ((x.answer, x.table), (y.answer, y.table), (z.answer, z.table))
