-- The laws of the filtered lines of a history.
use mathlib.Core.Path.{◌≡◌, refl, ◌∙◌, ap}
use mathlib.Core.Bool.{Bool, true, false}
use mathlib.Core.List.{List, [], ◌∷◌}
use Prim.Native.Nat.{◌<◌}
use native.Mathlib.Omega.{arith}
use Rattle.axis.specs.declared.row.Axis.{Axis}
use Rattle.axis_filter.specs.Lines.{Wire, A, B, Z, level_of}
use Rattle.axis_settle.specs.Lines.{place_of, line, filtered}
use Rattle.axis_filter.specs.declared.Line.{Line}
use Rattle.axis_filter.specs.declared.Raw.{Raw}
use Rattle.history_axis.specs.Acts.{Act, sampled}
use Rattle.history_axis.specs.Start.{Start}
use Rattle.history_axis.specs.Latest.{streak, latest}
use Rattle.history_axis.specs.Levels.{primed_at, since, level_at, run_at}
use Rattle.history_axis.specs.Told.{told_axis}
use Rattle.history_axis.proofs.LatestLaws.{streak_same, latest_full}
use Rattle.history_axis.proofs.FilterLaws.{line_of, line_short, line_start, filter_latest}

-- A filtered line after a history.
abbrev pub line_at : Axis → Wire → List Act → Line
line_at x w h = record { level = level_at x w h; run = run_at x w h }

line_is : (x : Axis) (w : Wire) (h : List Act) → line_at x w h ≡ line_of x.config.depth (since x w h).level (since x w h).raws
unfolding level_at run_at
line_is x w h = refl

-- The lines of the axis that a history tells.
pub line_told : (x : Axis) (w : Wire) (h : List Act) → line (told_axis x h) w ≡ line_at x w h
unfolding line place_of told_axis
line_told x A h = refl
line_told x B h = refl
line_told x Z h = refl

-- The levels of a priming sample are taken as they are, with no run.
pub level_prime : (x : Axis) (w : Wire) (s : Raw) (h : List Act) → primed_at x h ≡ false → level_at x w (sampled s ∷ h) ≡ level_of s w
unfolding level_at since latest
level_prime x w s h q = rw q

level_next : (x : Axis) (w : Wire) (s : Raw) (h : List Act) → primed_at x h ≡ true →
    level_at x w (sampled s ∷ h) ≡ latest x.config.depth (since x w h).level (level_of s w ∷ (since x w h).raws)
unfolding level_at since
level_next x w s h q = rw q

pub run_prime : (x : Axis) (w : Wire) (s : Raw) (h : List Act) → primed_at x h ≡ false → run_at x w (sampled s ∷ h) ≡ 0
unfolding run_at since streak
run_prime x w s h q = rw q

-- At depth 1 those of every sample are.
pub level_one : (x : Axis) (w : Wire) (s : Raw) (h : List Act) → x.config.depth ≡ 1 → level_at x w (sampled s ∷ h) ≡ level_of s w
level_one x w s h d = go (primed_at x h) refl
  where
    go : (b : Bool) → primed_at x h ≡ b → level_at x w (sampled s ∷ h) ≡ level_of s w
    go true q =
        let raws = (since x w h).raws in
        level_next x w s h q
        ∙ latest_full x.config.depth (since x w h).level (level_of s w) raws (omega (arith, streak_same (level_of s w) raws))
    go false q = level_prime x w s h q

module _ (x : Axis) (start : Start x) where
  pub deep : 0 < x.config.depth
  deep = omega (arith, start.short A)

  pub run_short : (w : Wire) (h : List Act) → run_at x w h < x.config.depth
  run_short w h =
      rw (ap (λ (l : Line). l.run) (line_is x w h)) (line_short x.config.depth (since x w h).level deep (since x w h).raws)

  -- The lines before any act.
  pub line_first : (w : Wire) → line_at x w [] ≡ line x w
  unfolding since
  line_first w = line_is x w [] ∙ line_start x.config.depth (line x w).level (line x w).run (start.short w)

  -- The filter on the axis that a history tells gives the lines that the history with that sample tells.
  pub filtered_told : (w : Wire) (s : Raw) (h : List Act) → primed_at x h ≡ true → filtered (told_axis x h) s w ≡ line_at x w (sampled s ∷ h)
  unfolding filtered told_axis since
  filtered_told w s h q =
      rw (line_told x w h, line_is x w h, line_is x w (sampled s ∷ h), q)
      (filter_latest x.config.depth (since x w h).level deep (since x w h).raws (level_of s w))
