-- The laws of a sample on a primed axis that a history tells.
use mathlib.Core.Path.{◌≡◌, refl, sym, ◌∙◌, ap}
use mathlib.Core.Bool.{Bool, true, false, not, ◌&&◌, ◌||◌, and-false, and-true, or-false}
use mathlib.Core.List.{List, [], ◌∷◌}
use Rattle.position.specs.Position.{in_range}
use Rattle.axis.specs.declared.row.Axis.{Axis}
use Rattle.axis_filter.specs.Lines.{Wire, A, B, Z}
use Rattle.axis_decode.specs.Decode.{entry, is_e, is_p, is_m}
use Rattle.axis_index.specs.Index.{edge_by, is_forward, is_backward, met, off_turn}
use Rattle.axis_index.proofs.IndexLaws.{either_way}
use Rattle.axis_settle.specs.Lines.{place_of, line, filtered, move_to, edge_to}
use Rattle.axis_sample.specs.Step.{outcome}
use Rattle.axis_settle.specs.Settle.{at_edge, with_entry, settle}
use Rattle.axis_decode.specs.declared.Move.{Move}
use Rattle.axis_decode.specs.declared.Move.TheVariants.{Still, Forward, Back, Double}
use Rattle.axis_filter.specs.declared.Line.{Line}
use Rattle.axis_filter.specs.declared.Raw.{Raw}
use Rattle.history_axis.specs.Acts.{Act, sampled}
use Rattle.history_axis.specs.Start.{Start}
use Rattle.history_axis.specs.Levels.{primed_at, level_at, run_at}
use Rattle.history_axis.specs.Entries.{code_at, entry_at, entries}
use Rattle.history_axis.specs.Edge.{quarter_at, forward_at, backward_at, edge_at}
use Rattle.history_axis.specs.Homing.{armed_at, homes_at, homed_at}
use Rattle.history_axis.specs.Tally.{place_tally, doubles_tally}
use Rattle.history_axis.specs.Index.{checked_at, index_at}
use Rattle.history_axis.specs.Told.{told_axis, answered}
use Rattle.history_axis.proofs.LevelsLaws.{line_at, filtered_told}
use Rattle.history_axis.proofs.EntriesLaws.{entry_primed, double_entry}
use Rattle.history_axis.proofs.TallyLaws.{word_next, range_next, index_next, doubles_next}
use Rattle.history_axis.proofs.ReferenceLaws.{met_one_way}
use Rattle.history_axis.proofs.PaceLaws.{pace_next}

-- Which way an edge is met by x4's entry and Z's levels, in words of rise and fall.
forward_by : (m : Move) (old new : Bool) → is_forward (edge_by m old new) ≡ (is_p m && (not old && new))
unfolding edge_by is_p
forward_by Still old new = refl
forward_by Forward true new = refl
forward_by Forward false true = refl
forward_by Forward false false = refl
forward_by Back true true = refl
forward_by Back true false = refl
forward_by Back false new = refl
forward_by Double old new = refl

backward_by : (m : Move) (old new : Bool) → is_backward (edge_by m old new) ≡ (is_m m && (old && not new))
unfolding edge_by is_m
backward_by Still old new = refl
backward_by Forward true new = refl
backward_by Forward false true = refl
backward_by Forward false false = refl
backward_by Back true true = refl
backward_by Back true false = refl
backward_by Back false new = refl
backward_by Double old new = refl

-- ARMED and HOMED at an edge that is met forward, or backward, or at none.
armed_next : (f b a : Bool) → (not f && (not b && a)) ≡ (a && not (f || b))
armed_next true b a = sym (and-false a)
armed_next false true a = sym (and-false a)
armed_next false false a = sym (and-true a)

homed_next : (h f b a : Bool) → ((h || (b && a)) || (f && (not b && a))) ≡ (h || (a && (f || b)))
homed_next true f b a = refl
homed_next false true true a = or-false a ∙ sym (and-true a)
homed_next false true false a = sym (and-true a)
homed_next false false true a = or-false a ∙ sym (and-true a)
homed_next false false false a = sym (and-false a)

module _
    (x : Axis)
    (start : Start x)
    (s : Raw)
    (h : List Act)
    (value : in_range (place_tally x h).value.position ≡ true)
    (q : primed_at x h ≡ true) where
  lines : Wire → Line
  lines w = line_at x w (sampled s ∷ h)

  move : Move
  move = entry x.config.kind (code_at x h) (code_at x (sampled s ∷ h))

  move_is : move_to (told_axis x h) lines ≡ move
  unfolding move_to line place_of told_axis code_at lines move
  move_is = refl

  forward_is : is_forward (edge_to (told_axis x h) lines) ≡ forward_at x s h
  unfolding edge_to line place_of told_axis code_at lines quarter_at forward_at
  forward_is = rw q (forward_by (quarter_at x s h) (level_at x Z h) (level_at x Z (sampled s ∷ h)))

  backward_is : is_backward (edge_to (told_axis x h) lines) ≡ backward_at x s h
  unfolding edge_to line place_of told_axis code_at lines quarter_at backward_at
  backward_is = rw q (backward_by (quarter_at x s h) (level_at x Z h) (level_at x Z (sampled s ∷ h)))

  met_is : met (edge_to (told_axis x h) lines) ≡ edge_at x s h
  unfolding edge_at
  met_is = either_way (edge_to (told_axis x h) lines) ∙ (λ i. forward_is i || backward_is i)

  entry_is : entry_at x s h ≡ move ∷ []
  unfolding move
  entry_is = entry_primed x s h q

  word_is : (settle (told_axis x h) lines).word ≡ (told_axis x (sampled s ∷ h)).word
  unfolding settle at_edge with_entry told_axis place_tally homes_at edge_at
  word_is =
      rw (move_is, forward_is, backward_is, entry_is)
      (word_next (place_tally x h) value move (forward_at x s h) (backward_at x s h) (armed_at x h) (met_one_way x s h))

  armed_is : (settle (told_axis x h) lines).flags.armed ≡ (told_axis x (sampled s ∷ h)).flags.armed
  unfolding settle at_edge with_entry told_axis armed_at edge_at
  armed_is = rw (forward_is, backward_is) (armed_next (forward_at x s h) (backward_at x s h) (armed_at x h))

  homed_is : (settle (told_axis x h) lines).flags.homed ≡ (told_axis x (sampled s ∷ h)).flags.homed
  unfolding settle at_edge with_entry told_axis homed_at homes_at edge_at
  homed_is = rw (forward_is, backward_is) (homed_next (homed_at x h) (forward_at x s h) (backward_at x s h) (armed_at x h))

  range_is : (settle (told_axis x h) lines).flags.range ≡ (told_axis x (sampled s ∷ h)).flags.range
  unfolding settle at_edge with_entry told_axis place_tally homes_at edge_at
  range_is =
      rw (move_is, forward_is, backward_is, entry_is)
      (range_next (place_tally x h) value move (forward_at x s h) (backward_at x s h) (armed_at x h) (met_one_way x s h))

  index_is : (settle (told_axis x h) lines).flags.index ≡ (told_axis x (sampled s ∷ h)).flags.index
  unfolding settle at_edge with_entry told_axis index_at edge_at checked_at
  index_is =
      rw (move_is, forward_is, backward_is, entry_is)
      (index_next (place_tally x h) value move (off_turn x.config.turn) (index_at x h) (homed_at x h)
      (forward_at x s h) (backward_at x s h) (armed_at x h) (met_one_way x s h))

  doubles_is : (settle (told_axis x h) lines).doubles ≡ (told_axis x (sampled s ∷ h)).doubles
  unfolding settle at_edge with_entry told_axis doubles_tally
  doubles_is = rw (move_is, entry_is) (doubles_next (doubles_tally x h) move)

  pace_is : (settle (told_axis x h) lines).pace ≡ (told_axis x (sampled s ∷ h)).pace
  unfolding settle at_edge with_entry told_axis entries
  pace_is = rw (move_is, entry_is) (pace_next x.pace (entries x h) move)

  told_settles : settle (told_axis x h) lines ≡ told_axis x (sampled s ∷ h)
  unfolding settle at_edge with_entry told_axis primed_at lines
  told_settles = λ i. record {
    word = word_is i;
    config = x.config;
    flags = record { primed = true; armed = armed_is i; homed = homed_is i; range = range_is i; index = index_is i };
    levels = level_at x A (sampled s ∷ h) ∷ level_at x B (sampled s ∷ h) ∷ level_at x Z (sampled s ∷ h) ∷ [];
    runs = run_at x A (sampled s ∷ h) ∷ run_at x B (sampled s ∷ h) ∷ run_at x Z (sampled s ∷ h) ∷ [];
    doubles = doubles_is i;
    pace = pace_is i;
  }

  lines_are : filtered (told_axis x h) s ≡ lines
  unfolding lines
  lines_are = λ i w. filtered_told x start w s h q i

  -- A sample on a primed axis does what the history with that sample tells, and the bits of the answer are E and the reference edge.
  pub settles : outcome true (told_axis x h) s ≡ answered x s h
  unfolding outcome answered
  settles = λ i. record {
    axis = (ap (λ (n : Wire → Line). settle (told_axis x h) n) lines_are ∙ told_settles) i;
    double = (ap (λ (n : Wire → Line). is_e (move_to (told_axis x h) n)) lines_are ∙ ap is_e move_is ∙ sym (double_entry x s h move entry_is))
        i;
    index = (ap (λ (n : Wire → Line). met (edge_to (told_axis x h) n)) lines_are ∙ met_is) i;
  }
