-- Demand 2 for one sampled axis: what every field of it is after a history, from any axis that a sound sampled row holds.
use mathlib.Core.Path.{◌≡◌, sym, ◌∙◌, ap}
use mathlib.Core.Bool.{true, false, ◌||◌}
use mathlib.Core.List.{List, [], ◌∷◌}
use Prim.Native.Nat.{◌+◌, min}
use lib.IntN.{ℤ, ◌+ℤ◌}
use Rattle.position.specs.Position.{position_of}
use Rattle.position.proofs.PositionLaws.{position_word}
use Rattle.axis.specs.declared.row.Axis.{Axis}
use Rattle.axis_filter.specs.Lines.{Wire}
use Rattle.axis_decode.specs.Decode.{entry, worth}
use Rattle.axis_settle.specs.Lines.{line}
use Rattle.axis_sample.specs.Step.{step_axis}
use Rattle.axis_filter.specs.declared.Line.{Line}
use Rattle.axis_filter.specs.declared.Raw.{Raw}
use Rattle.axis_sample.specs.declared.step.Stepped.{Stepped}
use Rattle.history_axis.specs.Acts.{Act, sampled, after, Legal}
use Rattle.history_axis.specs.Start.{Start}
use Rattle.history_axis.specs.Levels.{primed_at, level_at, run_at}
use Rattle.history_axis.specs.Entries.{code_at, entries, number_of_e, double_at}
use Rattle.history_axis.specs.Edge.{edge_at}
use Rattle.history_axis.specs.Homing.{armed_at, homes_at, homed_at}
use Rattle.history_axis.specs.Tally.{onward, sum, walk, held_in, walked, ranged, place_tally, position_at, doubles_tally}
use Rattle.history_axis.specs.Pace.{direction_of, age_of, period_of}
use Rattle.history_axis.specs.Index.{index_at}
use Rattle.history_axis.specs.Told.{told_axis, answered}
use Rattle.history_axis.proofs.LevelsLaws.{line_told}
use Rattle.history_axis.proofs.EntriesLaws.{entry_primed}
use Rattle.history_axis.proofs.TallyLaws.{one_clear, walked_sum}
use Rattle.history_axis.proofs.ToldLaws.{position_in, whole_history, sample_history}

module _ (x : Axis) (start : Start x) (h : List Act) (legal : Legal h) where
  whole : after x h ≡ told_axis x h
  whole = whole_history x start h legal

  -- Kind, depth, width and counts per turn never change.
  pub configuration_history : (after x h).config ≡ x.config
  unfolding told_axis
  configuration_history = ap (λ (y : Axis). y.config) whole

  -- PRIMED.
  pub primed_history : (after x h).flags.primed ≡ primed_at x h
  unfolding told_axis
  primed_history = ap (λ (y : Axis). y.flags.primed) whole

  -- Each filtered level is that of the latest consecutive equal raw samples.
  pub level_history : (w : Wire) → (line (after x h) w).level ≡ level_at x w h
  level_history w = ap (λ (y : Axis). (line y w).level) whole ∙ ap (λ (n : Line). n.level) (line_told x w h)

  -- Each run is the streak of newest samples that differ from the filtered level.
  pub run_history : (w : Wire) → (line (after x h) w).run ≡ run_at x w h
  run_history w = ap (λ (y : Axis). (line y w).run) whole ∙ ap (λ (n : Line). n.run) (line_told x w h)

  -- The position is the last value given and the entries since, but those that were held at the end of the range.
  pub position_walk : position_of (after x h).word ≡ walk (place_tally x h).value.position (place_tally x h).moves
  unfolding told_axis
  position_walk = ap (λ (y : Axis). position_of y.word) whole ∙ position_word (position_at x h) (position_in x start h legal)

  -- RANGE is set where an entry was held, or as it was given.
  pub range_history :
      (after x h).flags.range ≡ ((place_tally x h).value.range || held_in (place_tally x h).value.position (place_tally x h).moves)
  unfolding told_axis
  range_history = ap (λ (y : Axis). y.flags.range) whole

  -- While RANGE is clear, the position is the last value given plus the sum of the entries since.
  pub position_history : (after x h).flags.range ≡ false →
      position_of (after x h).word ≡ (place_tally x h).value.position +ℤ sum (place_tally x h).moves
  position_history clear = position_walk ∙ walked_sum (place_tally x h) (sym range_history ∙ clear)

  -- Doubles is the smaller of 65,535 and the E entries since the last acknowledge.
  pub doubles_history : (after x h).doubles ≡ min 65535 ((doubles_tally x h).value + number_of_e (doubles_tally x h).moves)
  unfolding told_axis
  doubles_history = ap (λ (y : Axis). y.doubles) whole

  -- Direction, age and period are those of the entries.
  pub direction_history : (after x h).pace.direction ≡ direction_of x.pace (entries x h)
  unfolding told_axis
  direction_history = ap (λ (y : Axis). y.pace.direction) whole

  pub age_history : (after x h).pace.age ≡ age_of x.pace (entries x h)
  unfolding told_axis
  age_history = ap (λ (y : Axis). y.pace.age) whole

  pub period_history : (after x h).pace.period ≡ period_of x.pace (entries x h)
  unfolding told_axis
  period_history = ap (λ (y : Axis). y.pace.period) whole

  -- ARMED, HOMED and INDEX.
  pub armed_history : (after x h).flags.armed ≡ armed_at x h
  unfolding told_axis
  armed_history = ap (λ (y : Axis). y.flags.armed) whole

  pub homed_history : (after x h).flags.homed ≡ homed_at x h
  unfolding told_axis
  homed_history = ap (λ (y : Axis). y.flags.homed) whole

  pub index_history : (after x h).flags.index ≡ index_at x h
  unfolding told_axis
  index_history = ap (λ (y : Axis). y.flags.index) whole

  -- A sample's double bit is set exactly where its entry is E, also where doubles no longer grows.
  pub double_bit : (s : Raw) → (step_axis (after x h) s).double ≡ double_at x s h
  unfolding answered
  double_bit s = ap (λ (o : Stepped). o.double) (sample_history x start s h legal)

  -- A sample's index bit is set exactly where it is a reference edge.
  pub index_bit : (s : Raw) → (step_axis (after x h) s).index ≡ edge_at x s h
  unfolding answered
  index_bit s = ap (λ (o : Stepped). o.index) (sample_history x start s h legal)

-- A sample on a primed axis that neither homes nor leaves RANGE set moves the position by what its entry is worth.
pub later_counts : (x : Axis) → Start x → (h : List Act) → Legal h → primed_at x h ≡ true → (s : Raw) → homes_at x s h ≡ false →
    (after x (sampled s ∷ h)).flags.range ≡ false →
    position_of (after x (sampled s ∷ h)).word
    ≡ position_of (after x h).word +ℤ worth (entry x.config.kind (code_at x h) (code_at x (sampled s ∷ h)))
unfolding place_tally
later_counts x start h legal primed s stays clear =
    let m = entry x.config.kind (code_at x h) (code_at x (sampled s ∷ h)) in
    let next : place_tally x (sampled s ∷ h) ≡ onward (m ∷ []) (place_tally x h) = rw (stays, entry_primed x s h primed) in
    position_walk x start (sampled s ∷ h) (tt, legal)
    ∙ ap walked next
    ∙ (one_clear (place_tally x h) m (ap ranged (sym next) ∙ sym (range_history x start (sampled s ∷ h) (tt, legal)) ∙ clear)).1
    ∙ ap (λ (p : ℤ). p +ℤ worth m) (sym (position_walk x start h legal))
