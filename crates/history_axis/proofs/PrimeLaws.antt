-- The laws of a sample that primes the axis that a history tells.
use mathlib.Core.Path.{◌≡◌, sym}
use mathlib.Core.Bool.{true, false, and-true, and-false, or-false}
use mathlib.Core.List.{List, [], ◌∷◌}
use Rattle.position.specs.Position.{word_of}
use Rattle.axis.specs.declared.row.Axis.{Axis}
use Rattle.axis_filter.specs.Lines.{A, B, Z, level_of}
use Rattle.axis_sample.specs.Step.{primed_by, outcome}
use Rattle.axis_filter.specs.declared.Raw.{Raw}
use Rattle.history_axis.specs.Acts.{Act, sampled}
use Rattle.history_axis.specs.Levels.{primed_at}
use Rattle.history_axis.specs.Entries.{entries}
use Rattle.history_axis.specs.Edge.{forward_at, backward_at, edge_at}
use Rattle.history_axis.specs.Homing.{armed_at, homes_at, homed_at}
use Rattle.history_axis.specs.Tally.{walked, ranged, place_tally, doubled, doubles_tally}
use Rattle.history_axis.specs.Pace.{pace_of}
use Rattle.history_axis.specs.Index.{index_at}
use Rattle.history_axis.specs.Told.{told_axis, answered}
use Rattle.history_axis.proofs.LevelsLaws.{level_prime, run_prime}
use Rattle.history_axis.proofs.EntriesLaws.{entry_none, double_none}

module _ (x : Axis) (s : Raw) (h : List Act) (q : primed_at x h ≡ false) where
  no_edge : edge_at x s h ≡ false
  unfolding forward_at backward_at edge_at
  no_edge = rw q

  no_home : homes_at x s h ≡ false
  unfolding homes_at
  no_home = rw no_edge (and-false (armed_at x h))

  armed_stays : armed_at x h ≡ armed_at x (sampled s ∷ h)
  unfolding armed_at
  armed_stays = rw no_edge (sym (and-true (armed_at x h)))

  homed_stays : homed_at x h ≡ homed_at x (sampled s ∷ h)
  unfolding homed_at
  homed_stays = rw no_home (sym (or-false (homed_at x h)))

  index_stays : index_at x h ≡ index_at x (sampled s ∷ h)
  unfolding index_at
  index_stays = rw no_edge (sym (or-false (index_at x h)))

  place_stays : place_tally x h ≡ place_tally x (sampled s ∷ h)
  unfolding place_tally
  place_stays = rw (no_home, entry_none x s h q)

  doubles_stay : doubles_tally x h ≡ doubles_tally x (sampled s ∷ h)
  unfolding doubles_tally
  doubles_stay = rw (entry_none x s h q)

  entries_stay : entries x h ≡ entries x (sampled s ∷ h)
  unfolding entries
  entries_stay = rw (entry_none x s h q)

  levels_taken : s.a ∷ s.b ∷ s.z ∷ [] ≡ (told_axis x (sampled s ∷ h)).levels
  unfolding told_axis level_of
  levels_taken = rw (level_prime x A s h q, level_prime x B s h q, level_prime x Z s h q)

  runs_none : 0 ∷ 0 ∷ 0 ∷ [] ≡ (told_axis x (sampled s ∷ h)).runs
  unfolding told_axis
  runs_none = rw (run_prime x A s h q, run_prime x B s h q, run_prime x Z s h q)

  told_primes : primed_by (told_axis x h) s ≡ told_axis x (sampled s ∷ h)
  unfolding primed_by told_axis primed_at
  told_primes = λ i. record {
    word = word_of (walked (place_stays i));
    config = x.config;
    flags = record { primed = true; armed = armed_stays i; homed = homed_stays i; range = ranged (place_stays i); index = index_stays i };
    levels = levels_taken i;
    runs = runs_none i;
    doubles = doubled (doubles_stay i);
    pace = pace_of x.pace (entries_stay i);
  }

  -- A sample that primes sets PRIMED and the lines, changes nothing else, and sets no bit of the answer.
  pub primes : outcome false (told_axis x h) s ≡ answered x s h
  unfolding outcome answered
  primes = λ i. record { axis = told_primes i; double = sym (double_none x s h (entry_none x s h q)) i; index = sym no_edge i }
