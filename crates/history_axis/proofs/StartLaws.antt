-- Where a history may start: at the axis of any sampled row, at the axis that a setup or a restore makes, and at the axis after any
-- history.
use mathlib.Core.Path.{◌≡◌, refl, ap}
use mathlib.Core.Bool.{true}
use mathlib.Core.List.{List, [], ◌∷◌, ◌++◌}
use Prim.Native.Nat.{◌<◌}
use native.Mathlib.Omega.{arith}
use lib.IntN.{ℤ}
use Rattle.position.specs.Position.{in_range, word_of}
use Rattle.position.proofs.PositionLaws.{word_holds}
use Rattle.axis.specs.Row.{axis_of, fresh_at}
use Rattle.axis_sound.specs.Sound.{status_of, SampledAxis}
use Rattle.axis.specs.declared.config.Config.{Config}
use Rattle.axis.specs.declared.row.Axis.{Axis}
use Rattle.axis.specs.declared.row.Row.{Row}
use Rattle.axis_sound.specs.declared.Status.TheVariants.{Sampled}
use Rattle.axis_sound.proofs.SoundLaws.{sampled_gives}
use Rattle.axis_filter.specs.Lines.{Wire, A, B, Z}
use Rattle.axis_settle.specs.Lines.{place_of, line}
use Rattle.history_axis.specs.Acts.{Act, act, after, Legal}
use Rattle.history_axis.specs.Start.{Start}
use Rattle.history_axis.specs.Tally.{position_at}
use Rattle.history_axis.specs.Pace.{age_of}
use Rattle.history_axis.specs.Told.{told_axis}
use Rattle.history_axis.proofs.LevelsLaws.{line_told, run_short}
use Rattle.history_axis.proofs.ToldLaws.{position_in, whole_history}

-- A sampled axis may start a history.
pub start_sampled : {x : Axis} → SampledAxis x → Start x
unfolding line place_of
start_sampled {x} s = record {
  word = s.word;
  short = short;
  levels = s.levels;
  runs = s.runs;
  doubles = omega (arith, s.doubles);
  age = s.pace.age;
}
  where
    short : (w : Wire) → (line x w).run < x.config.depth
    short A = s.run_a
    short B = s.run_b
    short Z = s.run_z

-- The axis of a sampled row may start a history.
pub start_sound : (r : Row) → status_of r ≡ Sampled → Start (axis_of r)
start_sound r e = start_sampled (sampled_gives r e)

-- The axis that a setup or a restore makes may start a history.
pub start_fresh : (c : Config) (p : ℤ) → 0 < c.depth → in_range p ≡ true → Start (fresh_at c (word_of p))
unfolding line place_of
start_fresh c p deep e = record {
  word = word_holds p e;
  short = short;
  levels = refl;
  runs = refl;
  doubles = omega arith;
  age = omega arith;
}
  where
    short : (w : Wire) → (line (fresh_at c (word_of p)) w).run < c.depth
    short A = deep
    short B = deep
    short Z = deep

start_told : (x : Axis) → Start x → (h : List Act) → Legal h → Start (told_axis x h)
unfolding told_axis age_of
start_told x start h l =
    let p = position_in x start h l in
    record {
      word = word_holds (position_at x h) p;
      short = λ w. rw (line_told x w h) (run_short x start w h);
      levels = refl;
      runs = refl;
      doubles = omega arith;
      age = omega arith;
    }

-- The axis after a history may start another.
pub start_after : (x : Axis) → Start x → (h : List Act) → Legal h → Start (after x h)
start_after x start h l = rw (whole_history x start h l) (start_told x start h l)

-- A history in two parts is the newer part from the axis after the older one.
pub after_append : (x : Axis) (new old : List Act) → after x (new ++ old) ≡ after (after x old) new
unfolding after
after_append x [] old = refl
after_append x (a ∷ new) old = ap (λ (y : Axis). act y a) (after_append x new old)
