-- The named row, and the refusals LENGTH and AXIS: docs/RULES.md, "Reasons for saying no".
use Rattle.std.specs.Prelude.{ℕ, cond, List, eqb, ltb, length, Result, Ok, Err}
use Rattle.refusal.specs.declared.Refusal.{Refusal}
use Rattle.refusal.specs.declared.Refusal.TheVariants.{Length, Axis}
use Rattle.axis.specs.declared.row.Row.{Row}
use Rattle.table_rows.specs.Table.{axes_in, row_at}

-- How many axes a slice of so many words holds, or LENGTH.
unfoldable pub axes_or_length : ℕ → Result ℕ Refusal
axes_or_length len = cond (eqb (axes_in len) 0) (Err Length) (Ok (axes_in len))

-- LENGTH, then AXIS, then the named row.
unfoldable pub located : List ℕ → ℕ → Result Row Refusal
located t k =
    cond (eqb (axes_in (length t)) 0) (Err Length)
    (cond (ltb k (axes_in (length t))) (Ok (row_at t k)) (Err Axis))

-- What a call says where the row was found, and where it was not.
abbrev pub on_found : {A : Type 0} → (Refusal → A) → (Row → A) → Result Row Refusal → A
on_found refuse say (Ok r) = say r
on_found refuse say (Err e) = refuse e
