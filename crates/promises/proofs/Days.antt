-- What the two speed calls answer can be summed.
use Rattle.std.specs.Prelude.{Result, Ok, Err}
use mathlib.Core.Path.{◌≡◌, refl, sym, ◌∙◌, subst}
use mathlib.Core.List.{List}
use Prim.Native.Nat.{ℕ}
use lib.IntN.{ℤ}
use Rattle.speed.specs.Rounding.{Divides}
use Rattle.speed.specs.declared.Quotient.{Quotient}
use Rattle.speed.proofs.SpeedLaws.{unsped_not, speed_divides}
use Rattle.speed.proofs.SumLaws.{Spanned}
use Rattle.row_speed.specs.Speed.{speed_row}
use Rattle.row_speed.proofs.SpeedLaws.{speed_divides as period-divides}
use Rattle.table_rows.specs.Table.{row_at}
use Rattle.table_rows.specs.Located.{located, on_found}
use Rattle.table_rows.proofs.LocatedLaws.{found}
use Rattle.table.specs.Call.{speed_in}
use Rattle.promises.specs.Day.{by_count, by_period, AnsweredOver}
use Rattle.refusal.specs.declared.Refusal.{Refusal}
use Rattle.axis.specs.declared.row.Row.{Row}

-- A speed by period that is answered is that of the row that is named.
row_speed : (rate : ℕ) (t : List ℕ) (k : ℕ) (q : Quotient) → speed_in rate t k ≡ Ok q → speed_row rate (row_at t k) ≡ Ok q
row_speed rate t k q e = go (located t k) refl e
  where
    go : (l : Result Row Refusal) → located t k ≡ l → on_found Err (speed_row rate) l ≡ Ok q → speed_row rate (row_at t k) ≡ Ok q
    go (Err f) s a = absurd (unsped_not q f a)
    go (Ok r) s a = rw (found t k r s).1 a

-- Its own divisor in the place of T.
by_divisor : {n : ℤ} {T U : ℕ} {q : Quotient} → Divides n T q → q.divisor ≡ U → Divides n U q
by_divisor {n} {q = q} h e = subst (λ (d : ℕ). Divides n d q) (sym h.over ∙ e) h

-- What either call answers is the quotient of 1000 F times its counts.
pub answered_divides : (T F : ℕ) (D : ℤ) (q : Quotient) → AnsweredOver T F D q → Spanned T F D q
answered_divides T F D q (by_count samples e, d) = by_divisor (speed_divides D samples F q e) d
answered_divides T F D q (by_period t k e, d) = by_divisor (period-divides F (row_at t k) q (row_speed F t k q e)) d
