-- What happens to a sampled axis of one configuration: docs/RULES.md, "A port sample" and
-- "Calls that name one axis". A history is a list of acts, newest first.
use Rattle.std.specs.Prelude.{◌≡◌, true, List, [], ◌∷◌, ℤ}
use Rattle.position.specs.Position.{in_range}
use Rattle.axis.specs.declared.row.Axis.{Axis}
use Rattle.axis_sample.specs.Step.{step_axis}
use Rattle.row_calls.specs.Change.{preset_axis, arm_axis, acknowledge_axis}
use Rattle.axis_filter.specs.declared.Raw.{Raw}

-- A sample, or a call that leaves the configuration alone.
pub data Act : Type 0 where
  sampled : Raw → Act
  preset : ℤ → Act
  arm acknowledge : Act

-- An axis after an act.
unfoldable pub act : Axis → Act → Axis
act x (sampled s) = (step_axis x s).axis
act x (preset p) = preset_axis p x
act x arm = arm_axis x
act x acknowledge = acknowledge_axis x

-- An axis after a history.
unfoldable pub after : Axis → List Act → Axis
after x [] = x
after x (a ∷ h) = act (after x h) a

-- A preset is accepted within the range only.
abbrev pub Allowed : Act → Type 0
Allowed (sampled s) = Unit {0}
Allowed (preset p) = in_range p ≡ true
Allowed arm = Unit {0}
Allowed acknowledge = Unit {0}

-- Every act of a history was accepted.
abbrev pub Legal : List Act → Type 0
Legal [] = Unit {0}
Legal (a ∷ h) = Allowed a × Legal h
