-- A sampled axis stays one through a history: docs/RULES.md, "One row, four words".
use mathlib.Core.Path.{subst}
use mathlib.Core.List.{List, [], ◌∷◌}
use Rattle.axis_sound.specs.Sound.{SampledAxis}
use Rattle.axis.specs.declared.row.Axis.{Axis}
use Rattle.axis_sample.proofs.KeepLaws.{keep_step}
use Rattle.row_calls.proofs.ChangeLaws.{preset_sampled, arm_sampled, acknowledge_sampled}
use Rattle.history_axis.specs.Acts.{Act, sampled, preset, arm, acknowledge, act, after, Allowed, Legal}
use Rattle.history_axis.specs.Told.{told_axis}
use Rattle.history_axis.proofs.ToldLaws.{whole_history}
use Rattle.history_axis.proofs.StartLaws.{start_sampled}

module _ (x : Axis) (s : SampledAxis x) where
  -- After an act.
  keep_act : (a : Act) → Allowed a → SampledAxis (act x a)
  unfolding act
  keep_act (sampled w) l = keep_step x w s
  keep_act (preset p) l = preset_sampled x p l s
  keep_act arm l = arm_sampled x s
  keep_act acknowledge l = acknowledge_sampled x s

module _ (x : Axis) (s : SampledAxis x) where
  -- A sampled axis is a sampled axis after a history.
  pub keep_after : (h : List Act) → Legal h → SampledAxis (after x h)
  unfolding after
  keep_after [] l = s
  keep_after (a ∷ h) l = keep_act (after x h) (keep_after h l.1) a l.0

  -- So is the axis that the history tells.
  pub keep_told : (h : List Act) → Legal h → SampledAxis (told_axis x h)
  keep_told h l = subst SampledAxis (whole_history x (start_sampled s) h l) (keep_after h l)
