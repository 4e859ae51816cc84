-- Speeds that are summed: docs/RULES.md, "Calls that name one axis", number, remainder and divisor.
use Rattle.std.specs.Prelude.{ℕ, ◌*◌, cond, List, [], ◌∷◌, map, leb, ℤ, pos, negsuc, ◌+ℤ◌}
use Rattle.integers.specs.Integer.{plus, minus}
use Rattle.speed.specs.Rounding.{divided}
use Rattle.speed.specs.declared.Quotient.{Quotient}

-- The sum of whole numbers.
unfoldable pub sum_of : List ℤ → ℤ
sum_of [] = pos 0
sum_of (z ∷ zs) = z +ℤ sum_of zs

-- The numbers of answers.
abbrev pub numbers_of : List Quotient → List ℤ
numbers_of qs = map (λ (q : Quotient). q.number) qs

-- Their remainders.
abbrev pub remainders_of : List Quotient → List ℤ
remainders_of qs = map (λ (q : Quotient). q.remainder) qs

-- Intervals, the latest first: the counts of each, and the quotient that was answered for it, of which P is true.
pub data Intervals (P : ℤ → Quotient → Type 0) : List ℤ → List Quotient → Type 0 where
  start : Intervals P [] []
  next : {counts : List ℤ} {answers : List Quotient} (D : ℤ) (q : Quotient) → P D q → Intervals P counts answers →
      Intervals P (D ∷ counts) (q ∷ answers)

-- What a caller keeps who sums speeds: what was added so far, and the carry.
pub record Carried : Type 0 where
  pub sum : ℤ
  pub carry : ℤ

-- Number and remainder of the carry and one answer's remainder more, over the same divisor.
unfoldable pub carried_over : ℕ → Carried → Quotient → Quotient
carried_over T c q = divided (c.carry +ℤ q.remainder) T

-- A caller's sum after answers, the latest first: nothing at first, and for each answer its number and that of what is carried over.
unfoldable pub carried_by : ℕ → List Quotient → Carried
carried_by T [] = record { sum = pos 0; carry = pos 0 }
carried_by T (q ∷ qs) =
    let c = carried_by T qs in
    record { sum = c.sum +ℤ (q.number +ℤ (carried_over T c q).number); carry = (carried_over T c q).remainder }

-- What is carried over of x, at most T in size, as a caller finds it without dividing: 1 from half of T up, -1 from minus half of T down,
-- else 0.
unfoldable pub step_of : ℕ → ℤ → ℤ
step_of T x = cond (leb T (2 * plus x)) (pos 1) (cond (leb T (2 * minus x)) (negsuc 0) (pos 0))
