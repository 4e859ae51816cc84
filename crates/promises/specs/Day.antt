-- What the two speed calls answer over a day: docs/RULES.md, "Calls that name one axis", the speeds.
use Rattle.std.specs.Prelude.{ℕ, ◌≡◌, List, ℤ, Ok}
use Rattle.speed.specs.Speed.{speed_by_count}
use Rattle.speed.specs.declared.Quotient.{Quotient}
use Rattle.axis.specs.Row.{axis_of}
use Rattle.row_speed.specs.Speed.{sign_of}
use Rattle.table_rows.specs.Table.{row_at}
use Rattle.table.specs.Call.{speed_in}

-- At rate F a speed of D counts was answered by q: by count, of the difference D; or by period, of any axis of any table, where D is one
-- count with the sign of its direction.
pub data Answered (F : ℕ) : ℤ → Quotient → Type 0 where
  by_count : {D : ℤ} {q : Quotient} (samples : ℕ) → speed_by_count D samples F ≡ Ok q → Answered F D q
  by_period : {q : Quotient} (t : List ℕ) (k : ℕ) → speed_in F t k ≡ Ok q → Answered F (sign_of (axis_of (row_at t k)).pace.direction) q

-- So it was, and its divisor is T.
abbrev pub AnsweredOver : ℕ → ℕ → ℤ → Quotient → Type 0
AnsweredOver T F D q = Answered F D q × (q.divisor ≡ T)
