-- Direction, age and period: docs/RULES.md, "A port sample", Age and period.
use Rattle.std.specs.Prelude.{ℕ, ◌+◌, ◌-◌, ◌^◌, min, cond, ◌&&◌, eqb, ltb}
use Rattle.axis.specs.declared.row.Pace.{Pace}
use Rattle.axis_decode.specs.declared.Move.{Move}
use Rattle.axis_decode.specs.declared.Move.TheVariants.{Still, Forward, Back, Double}

-- The age one sample on, at most 2 ^ 32 - 1.
unfoldable pub older : ℕ → ℕ
older age = min (age + 1) (2 ^ 32 - 1)

-- Direction after an entry: 1 forward, 2 back, 0 after a double step.
unfoldable pub paced_direction : Move → ℕ → ℕ
paced_direction Still d = d
paced_direction Forward d = 1
paced_direction Back d = 2
paced_direction Double d = 0

-- Age after an entry.
unfoldable pub paced_age : Move → ℕ → ℕ
paced_age Still age = older age
paced_age Forward age = 0
paced_age Back age = 0
paced_age Double age = 0

-- The period of a step in direction d.
unfoldable pub step_period : ℕ → ℕ → ℕ → ℕ
step_period d direction age = cond (ltb (older age) (2 ^ 32 - 1) && eqb direction d) (older age) 0

-- Period after an entry.
unfoldable pub paced_period : Move → ℕ → ℕ → ℕ → ℕ
paced_period Still direction age period = period
paced_period Forward direction age period = step_period 1 direction age
paced_period Back direction age period = step_period 2 direction age
paced_period Double direction age period = 0

-- Direction, age and period after an entry.
abbrev pub paced_by : Move → Pace → Pace
paced_by m p = record {
  direction = paced_direction m p.direction;
  age = paced_age m p.age;
  period = paced_period m p.direction p.age p.period;
}
