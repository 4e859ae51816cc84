-- The laws of a sample on an axis: docs/RULES.md, "A port sample".
use mathlib.Core.Path.{◌≡◌, refl, ap, ◌∙◌}
use mathlib.Core.Bool.{Bool, true, false}
use Rattle.axis.specs.declared.row.Axis.{Axis}
use Rattle.axis_filter.specs.Lines.{Wire, A, B, Z, level_of, three}
use Rattle.axis_filter.specs.Filter.{filter_lines}
use Rattle.axis_decode.specs.Decode.{is_e}
use Rattle.axis_settle.specs.Lines.{place_of, line, lines_of, filtered}
use Rattle.axis_sample.specs.Step.{primed_by, move_of, edge_met, advanced, outcome, step_axis}
use Rattle.axis_settle.specs.Settle.{at_edge, with_entry, settle}
use Rattle.axis_sample.specs.After.{Primed}
use Rattle.axis_filter.specs.declared.Lines.{Lines}
use Rattle.axis_filter.specs.declared.Raw.{Raw}

-- Three lines that are read by name are those lines.
pub lines_are : (x : Axis) (s : Raw) {n : Lines} → n ≡ filter_lines x.config.depth (lines_of x) s → three n ≡ filtered x s
unfolding three filtered line place_of level_of
lines_are x s e = ap three e ∙ (λ i w. go w i)
  where
    go : (w : Wire) → three (filter_lines x.config.depth (lines_of x) s) w ≡ filtered x s w
    go A = refl
    go B = refl
    go Z = refl

-- ---- a sample by whether the axis is primed

module _ (x : Axis) (s : Raw) where
  -- A sample on a primed axis.
  pub step_primed : x.flags.primed ≡ true → step_axis x s ≡ record { axis = advanced x s; double = is_e (move_of x s); index = edge_met x s }
  unfolding step_axis outcome
  step_primed e = ap (λ (b : Bool). outcome b x s) e

  -- A sample on an axis that is not primed.
  pub step_unprimed : x.flags.primed ≡ false → step_axis x s ≡ record { axis = primed_by x s; double = false; index = false }
  unfolding step_axis outcome
  step_unprimed e = ap (λ (b : Bool). outcome b x s) e

  -- After a sample the axis is primed.
  pub step_primes : (step_axis x s).axis.flags.primed ≡ true
  unfolding step_axis outcome settle at_edge with_entry primed_by
  step_primes = go x.flags.primed
    where
      go : (b : Bool) → (outcome b x s).axis.flags.primed ≡ true
      go true = refl
      go false = refl

  -- The lines of a primed axis become the filtered ones.
  pub line_advance : (w : Wire) → line (advanced x s) w ≡ filtered x s w
  unfolding line settle at_edge with_entry place_of
  line_advance A = refl
  line_advance B = refl
  line_advance Z = refl

  -- Priming takes each raw level, with no run.
  pub line_prime : (w : Wire) → line (primed_by x s) w ≡ record { level = level_of s w; run = 0 }
  unfolding line primed_by place_of level_of
  line_prime A = refl
  line_prime B = refl
  line_prime Z = refl

-- A sample leaves the configuration.
pub step_config : (x : Axis) (s : Raw) → (step_axis x s).axis.config ≡ x.config
unfolding step_axis outcome settle at_edge with_entry primed_by
step_config x s = go x.flags.primed
  where
    go : (b : Bool) → (outcome b x s).axis.config ≡ x.config
    go true = refl
    go false = refl

-- Priming counts nothing, homes nothing and sets no bit of the answer, whatever the levels are.
pub priming : (x : Axis) (s : Raw) → x.flags.primed ≡ false → Primed x s (step_axis x s)
unfolding primed_by
priming x s h =
    rw (step_unprimed x s h)
    (record { double = refl; edge = refl; lines = line_prime x s; word = refl; flags = refl; doubles = refl; pace = refl })
