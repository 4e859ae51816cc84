-- A sample keeps what a sampled axis is: docs/RULES.md, "One row, four words" and "A port sample".
use Prim.Native.Nat.{ℕ, ◌^◌, ◌<◌}
use mathlib.Core.Path.{◌≡◌, refl, sym}
use mathlib.Core.Bool.{Bool, true, false, cond, not, ◌&&◌, ◌||◌, true≢false}
use lib.Dec.{ltb}
use borrow.Author.Tests.{ltb-true}
use Rattle.position.specs.Position.{Word}
use Rattle.position.proofs.PositionLaws.{origin_holds}
use Rattle.axis.specs.declared.row.Axis.{Axis}
use Rattle.axis.specs.declared.row.Pace.{Pace}
use Rattle.axis_sound.specs.Sound.{SoundPace, SampledAxis}
use Rattle.axis_filter.specs.Lines.{A, B, Z, level_of}
use Rattle.axis_filter.specs.Filter.{Short}
use Rattle.axis_decode.specs.declared.Move.{Move}
use Rattle.axis_pace.specs.Pace.{paced_by}
use Rattle.axis_index.specs.Index.{is_forward, is_backward, off_turn}
use Rattle.axis_settle.specs.Lines.{place_of, line, lines_of, filtered, move_to, edge_to}
use Rattle.axis_sample.specs.Step.{primed_by, advanced, outcome, step_axis}
use Rattle.axis_settle.specs.Settle.{at_edge, with_entry, settle}
use Rattle.axis_filter.specs.declared.Raw.{Raw}
use Rattle.axis_filter.proofs.FilterLaws.{filter_short}
use Rattle.axis_count.proofs.CountLaws.{count_keeps, doubles_below}
use Rattle.axis_pace.proofs.PaceLaws.{direction_below, age_below, period_below, resting}

-- The runs of a sampled axis are short.
pub sampled_short : {x : Axis} → SampledAxis x → Short x.config.depth (lines_of x)
sampled_short g = record { run_a = g.run_a; run_b = g.run_b; run_z = g.run_z }

-- ARMED and HOMED stay apart: homing clears the one as it sets the other.
apart_step : (edge a h : Bool) → a && h ≡ false → (not edge && a) && (h || (edge && a)) ≡ false
apart_step true a h e = refl
apart_step false true true e = absurd (true≢false e)
apart_step false true false e = refl
apart_step false false h e = refl

-- INDEX is set only where there are counts per turn.
index_step : (i c : Bool) (turn : ℕ) (o : Bool) → (i ≡ true → 0 < turn) → (i || (c && (ltb 0 turn && o))) ≡ true → 0 < turn
index_step true c turn o h e = h refl
index_step false true turn o h e = go (ltb 0 turn) refl e
  where
    go : (b : Bool) → ltb 0 turn ≡ b → (b && o) ≡ true → 0 < turn
    go true p e = ltb-true 0 turn p
    go false p e = absurd (true≢false (sym e))
index_step false false turn o h e = absurd (true≢false (sym e))

-- Homing leaves a word that holds a position.
home_word : (b : Bool) {w : ℕ} → Word w → Word (cond b (2 ^ 62) w)
home_word true h = origin_holds
home_word false h = h

-- A sound pace is one after an entry.
pace_kept : (m : Move) (p : Pace) → SoundPace p → SoundPace (paced_by m p)
pace_kept m p s = record {
  direction = direction_below m p.direction s.direction;
  period = period_below m p.direction p.age p.period s.period;
  resting = resting m p.direction p.age p.period s.resting;
  age = age_below m p.age;
}

-- So the index line leaves a position, ARMED and HOMED apart, and INDEX only with counts per turn.
module _ (edge : Bool) (x : Axis) where
  edge_word : Word x.word → Word (at_edge edge x).word
  unfolding at_edge
  edge_word = home_word (edge && x.flags.armed)

  edge_apart : x.flags.armed && x.flags.homed ≡ false → (at_edge edge x).flags.armed && (at_edge edge x).flags.homed ≡ false
  unfolding at_edge
  edge_apart = apart_step edge x.flags.armed x.flags.homed

  edge_index : (x.flags.index ≡ true → 0 < x.config.turn) → (at_edge edge x).flags.index ≡ true → 0 < x.config.turn
  unfolding at_edge off_turn
  edge_index = index_step x.flags.index (edge && not x.flags.armed && x.flags.homed) x.config.turn _

keep_advance : (x : Axis) (s : Raw) → SampledAxis x → SampledAxis (advanced x s)
unfolding settle at_edge with_entry filtered line place_of
keep_advance x s g =
    let m = move_to x (filtered x s) in
    let e = edge_to x (filtered x s) in
    let y = at_edge (is_backward e) x in
    let z = with_entry m (filtered x s) y in
    let d = x.config.depth in
    record {
      word = edge_word (is_forward e) z (count_keeps m y.word (edge_word (is_backward e) x g.word));
      config = g.config;
      run_a = filter_short d (line x A) (level_of s A) g.run_a;
      run_b = filter_short d (line x B) (level_of s B) g.run_b;
      run_z = filter_short d (line x Z) (level_of s Z) g.run_z;
      apart = edge_apart (is_forward e) z (edge_apart (is_backward e) x g.apart);
      pace = pace_kept m x.pace g.pace;
      index = edge_index (is_forward e) z (edge_index (is_backward e) x g.index);
      unprimed = λ e. absurd (true≢false e);
      doubles = doubles_below m x.doubles g.doubles;
      levels = refl;
      runs = refl;
    }

keep_prime : (x : Axis) (s : Raw) → SampledAxis x → SampledAxis (primed_by x s)
unfolding primed_by
keep_prime x s g = record {
  word = g.word;
  config = g.config;
  run_a = g.config.shallow;
  run_b = g.config.shallow;
  run_z = g.config.shallow;
  apart = g.apart;
  pace = g.pace;
  index = g.index;
  unprimed = λ e. absurd (true≢false e);
  doubles = g.doubles;
  levels = refl;
  runs = refl;
}

-- A sampled axis is a sampled axis after a sample.
pub keep_step : (x : Axis) (s : Raw) → SampledAxis x → SampledAxis (step_axis x s).axis
unfolding step_axis outcome
keep_step x s g = go x.flags.primed
  where
    go : (b : Bool) → SampledAxis (outcome b x s).axis
    go true = keep_advance x s g
    go false = keep_prime x s g
