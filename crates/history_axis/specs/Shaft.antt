-- A shaft as an encoder shows it: docs/RULES.md, "A port sample", Count. Angles are whole quarter steps.
use Rattle.std.specs.Prelude.{ℕ, ◌≤◌, ◌≡◌, Bool, false, List, [], ◌∷◌, ◌++◌, get_or, ℤ, nat_abs, ◌-ℤ◌}
use Rattle.integers.specs.Integer.{mod_z}
use Rattle.fields.specs.Field.{flag_of}
use Rattle.axis.specs.declared.row.Axis.{Axis}
use Rattle.axis_filter.specs.declared.Raw.{Raw}
use Rattle.history_axis.specs.Acts.{Act, sampled}
use Rattle.history_axis.specs.Entries.{double_at}
use Rattle.history_axis.specs.Homing.{homes_at}

-- The codes of one cycle forward.
unfoldable pub cycle : List ℕ
cycle = 0 ∷ 1 ∷ 3 ∷ 2 ∷ []

-- The code at an angle.
unfoldable pub angle_code : ℤ → ℕ
angle_code angle = get_or cycle (mod_z angle 4) 0

-- A sample of the shaft: the angle, and any level of Z.
pub record ShaftSample : Type 0 where
  pub angle : ℤ
  pub z : Bool

-- Its raw levels.
unfoldable pub raw_at : ShaftSample → Raw
raw_at t = record { a = flag_of 0 (angle_code t.angle); b = flag_of 1 (angle_code t.angle); z = t.z }

-- The history of a shaft with no call between: a first sample, as the one that primes is, and later ones, newest first.
unfoldable pub watched : ShaftSample → List ShaftSample → List Act
watched first [] = sampled (raw_at first) ∷ []
watched first (t ∷ ts) = sampled (raw_at t) ∷ watched first ts

-- The angle at the newest sample.
unfoldable pub angle_at : ShaftSample → List ShaftSample → ℤ
angle_at first [] = first.angle
angle_at first (t ∷ ts) = t.angle

-- How far the shaft turned, net, from the newest sample to the sample t.
unfoldable pub turned_by : ShaftSample → List ShaftSample → ShaftSample → ℕ
turned_by first ts t = nat_abs (t.angle -ℤ angle_at first ts)

-- No move of the stretch `new`, which followed on `old`, was above two quarter steps.
abbrev pub AtMostTwo : ShaftSample → List ShaftSample → List ShaftSample → Type 0
AtMostTwo first old [] = Unit {0}
AtMostTwo first old (t ∷ new) = (turned_by first (new ++ old) t ≤ 2) × AtMostTwo first old new

-- No sample of that stretch had E or homed.
abbrev pub Undisturbed : Axis → ShaftSample → List ShaftSample → List ShaftSample → Type 0
Undisturbed x first old [] = Unit {0}
Undisturbed x first old (t ∷ new) =
    (double_at x (raw_at t) (watched first (new ++ old)) ≡ false)
    × (homes_at x (raw_at t) (watched first (new ++ old)) ≡ false)
    × Undisturbed x first old new
