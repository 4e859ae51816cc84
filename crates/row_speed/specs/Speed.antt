-- Speed by period, on a row: docs/RULES.md, "Calls that name one axis".
use Rattle.std.specs.Prelude.{ℕ, max, cond, eqb, ℤ, pos, negsuc, Result, Err}
use Rattle.refusal.specs.declared.Refusal.TheVariants.{Kind as KIND, Value as VALUE, NoPeriod as NO-PERIOD}
use Rattle.speed.specs.Speed.{good_rate, speed_by_count}
use Rattle.axis.specs.Row.{axis_of}
use Rattle.axis.specs.declared.row.Pace.{Pace}
use Rattle.axis.specs.declared.row.Row.{Row}
use Rattle.axis_sound.specs.Sound.{status_of}
use Rattle.row_calls.specs.Calls.{by_status}
use Rattle.refusal.specs.declared.Refusal.{Refusal}
use Rattle.speed.specs.declared.Quotient.{Quotient}

-- The sign of a direction: 1 forward, 2 back.
abbrev pub sign_of : ℕ → ℤ
sign_of d = cond (eqb d 2) (negsuc 0) (pos 1)

-- The samples that one count took or has taken so far: the larger of period and age.
abbrev pub span_of : Pace → ℕ
span_of p = max p.period p.age

-- Speed by the pace of a sampled row: one count over that many samples.
unfoldable pub speed_of : ℕ → Pace → Result Quotient Refusal
speed_of rate p =
    cond (good_rate rate)
    (cond (eqb p.period 0) (Err NO-PERIOD) (speed_by_count (sign_of p.direction) (span_of p) rate))
    (Err VALUE)

-- The answer of speed by period, on a sampled row only.
unfoldable pub speed_row : ℕ → Row → Result Quotient Refusal
speed_row rate r = by_status Err (speed_of rate (axis_of r).pace) (Err KIND) (status_of r)
