-- The axis after a history is the axis that the history tells.
use mathlib.Core.Path.{◌≡◌, refl, sym, ◌∙◌, ap}
use mathlib.Core.Bool.{Bool, true, false, cond, or-false}
use mathlib.Core.List.{List, [], ◌∷◌}
use Prim.Native.Nat.{◌+◌, ◌-◌, ◌^◌, min}
use native.Mathlib.Omega.{arith}
use Rattle.position.specs.Position.{in_range}
use Rattle.position.proofs.PositionLaws.{position_in_range, word_position}
use Rattle.axis.specs.Flags.{with_range}
use Rattle.axis.specs.declared.row.Axis.{Axis}
use Rattle.axis.proofs.RowLaws.{three_of}
use Rattle.axis_filter.specs.Lines.{A, B, Z}
use Rattle.axis_settle.specs.Lines.{place_of, line}
use Rattle.axis_sample.specs.Step.{outcome, step_axis}
use Rattle.axis_filter.specs.declared.Raw.{Raw}
use Rattle.axis_sample.specs.declared.step.Stepped.{Stepped}
use Rattle.history_axis.specs.Acts.{Act, sampled, preset, arm, acknowledge, act, after, Legal}
use Rattle.row_calls.specs.Change.{changed}
use Rattle.history_axis.specs.Start.{Start}
use Rattle.history_axis.specs.Levels.{primed_at, since, level_at, run_at}
use Rattle.history_axis.specs.Entries.{entry_at, entries, number_of_e}
use Rattle.history_axis.specs.Edge.{backward_at}
use Rattle.history_axis.specs.Homing.{armed_at, homes_at, homed_at}
use Rattle.history_axis.specs.Tally.{onward, homed_tally, walk, held_in, place_tally, position_at, doubles_tally}
use Rattle.history_axis.specs.Pace.{direction_of, gap_of, age_of, period_of}
use Rattle.history_axis.specs.Index.{index_at}
use Rattle.history_axis.specs.Told.{told_axis, answered}
use Rattle.history_axis.proofs.LevelsLaws.{line_first}
use Rattle.history_axis.proofs.TallyLaws.{walk_in_range}
use Rattle.history_axis.proofs.PrimeLaws.{primes}
use Rattle.history_axis.proofs.SettleLaws.{settles}

module _ (x : Axis) (start : Start x) where
  -- ---- before any act

  levels_first : level_at x A [] ∷ level_at x B [] ∷ level_at x Z [] ∷ [] ≡ x.levels
  unfolding line place_of
  levels_first =
      (λ i. (line_first x start A i).level ∷ (line_first x start B i).level ∷ (line_first x start Z i).level ∷ [])
      ∙ three_of x.levels false start.levels

  runs_first : run_at x A [] ∷ run_at x B [] ∷ run_at x Z [] ∷ [] ≡ x.runs
  unfolding line place_of
  runs_first =
      (λ i. (line_first x start A i).run ∷ (line_first x start B i).run ∷ (line_first x start Z i).run ∷ [])
      ∙ three_of x.runs 0 start.runs

  doubles_first : min 65535 (x.doubles + 0) ≡ x.doubles
  doubles_first = omega (arith, start.doubles)

  age_first : min (2 ^ 32 - 1) x.pace.age ≡ x.pace.age
  age_first = omega (arith, start.age)

  -- An empty history tells the starting axis.
  pub told_first : told_axis x [] ≡ x
  unfolding told_axis primed_at armed_at homed_at index_at place_tally walk held_in doubles_tally number_of_e entries direction_of gap_of age_of period_of
  told_first = λ i. record {
    word = word_position x.word start.word i;
    config = x.config;
    flags = with_range (or-false x.flags.range i) x.flags;
    levels = levels_first i;
    runs = runs_first i;
    doubles = doubles_first i;
    pace = record { direction = x.pace.direction; age = age_first i; period = x.pace.period };
  }

  -- ---- the position stays in the range

  value_in_range : (h : List Act) → Legal h → in_range (place_tally x h).value.position ≡ true
  unfolding place_tally in_range
  value_in_range [] l = position_in_range x.word start.word
  value_in_range (sampled s ∷ h) l = go (homes_at x s h) (value_in_range h l.1)
    where
      go : (b : Bool) → in_range (place_tally x h).value.position ≡ true →
          in_range (cond b (homed_tally (backward_at x s h) (entry_at x s h)) (onward (entry_at x s h) (place_tally x h))).value.position ≡ true
      go true e = refl
      go false e = e
  value_in_range (preset p ∷ h) l = l.0
  value_in_range (arm ∷ h) l = value_in_range h l.1
  value_in_range (acknowledge ∷ h) l = value_in_range h l.1

  pub position_in : (h : List Act) → Legal h → in_range (position_at x h) ≡ true
  position_in h l = walk_in_range (place_tally x h).value.position (value_in_range h l) (place_tally x h).moves

  -- ---- the acts

  -- A sample on the axis that a history tells.
  pub sample_told : (s : Raw) (h : List Act) → Legal h → step_axis (told_axis x h) s ≡ answered x s h
  unfolding step_axis told_axis
  sample_told s h l = go (primed_at x h) refl
    where
      go : (b : Bool) → primed_at x h ≡ b → outcome b (told_axis x h) s ≡ answered x s h
      go true q = settles x start s h (value_in_range h l) q
      go false q = primes x s h q

  -- An act on the axis that a history tells.
  pub act_told : (a : Act) (h : List Act) → Legal (a ∷ h) → act (told_axis x h) a ≡ told_axis x (a ∷ h)
  unfolding act changed answered told_axis primed_at since level_at run_at armed_at homed_at index_at place_tally walk held_in doubles_tally number_of_e
      entries
  act_told (sampled s) h l = ap (λ (o : Stepped). o.axis) (sample_told s h l.1)
  act_told (preset p) h l = refl
  act_told arm h l = refl
  act_told acknowledge h l = refl

  -- The axis after a history is, in every field, the one that the history tells.
  pub whole_history : (h : List Act) → Legal h → after x h ≡ told_axis x h
  unfolding after
  whole_history [] l = sym told_first
  whole_history (a ∷ h) l = ap (λ (y : Axis). act y a) (whole_history h l.1) ∙ act_told a h l

  -- So is a sample's answer.
  pub sample_history : (s : Raw) (h : List Act) → Legal h → step_axis (after x h) s ≡ answered x s h
  sample_history s h l = ap (λ (y : Axis). step_axis y s) (whole_history h l) ∙ sample_told s h l
