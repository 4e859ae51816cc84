-- The laws of the filter in terms of history, once over the depth.
use mathlib.Core.Path.{◌≡◌, refl, sym, ◌∙◌, ap}
use mathlib.Core.Bool.{Bool, true, false, cond, not, not-not}
use mathlib.Core.List.{List, [], ◌∷◌}
use Prim.Native.Nat.{ℕ, zero, suc, ◌+◌, ◌<◌}
use native.Mathlib.Omega.{arith}
use borrow.Author.Tests.{eqb-true, eqb-false}
use lib.Dec.{eqb}
use lib.ListN.{replicate}
use Rattle.axis_filter.specs.declared.Line.{Line}
use Rattle.axis_filter.specs.Filter.{filter_line}
use Rattle.history_axis.specs.Latest.{streak, latest}
use Rattle.history_axis.proofs.LatestLaws.{streak_same, streak_other, streak_replicate, latest_full, latest_same, latest_pass}

-- The line that the samples h since the level v make, at depth d.
abbrev pub line_of : ℕ → Bool → List Bool → Line
line_of d v h = record { level = latest d v h; run = streak (not (latest d v h)) h }

record Makes (d : ℕ) (v : Bool) (h : List Bool) (l : Line) : Type 0 where
  level : l.level ≡ latest d v h
  run : l.run ≡ streak (not (latest d v h)) h
  short : l.run < d

module _ (d : ℕ) (v : Bool) where
  -- The next sample is the filtered level.
  equal : (x : Bool) (h : List Bool) → latest d v h ≡ x → 0 < d → Makes d v (x ∷ h) (record { level = x; run = 0 })
  equal x h e g =
      let same = latest_same d v x h e in
      record { level = sym same; run = rw (same, streak_other x h); short = g }

  -- It is the other one, which makes the run as long as the depth, or does not.
  other : (x : Bool) (h : List Bool) (r : ℕ) → latest d v h ≡ not x → r ≡ streak x h → r < d → (full : Bool) → eqb (r + 1) d ≡ full →
      Makes d v (x ∷ h) (cond full (record { level = x; run = 0 }) (record { level = not x; run = r + 1 }))
  other x h r e f g true q =
      let now = latest_full d v x h (rw (streak_same x h) (omega (arith, eqb-true))) in
      record { level = sym now; run = rw (now, streak_other x h); short = omega arith }
  other x h r e f g false q =
      let more : suc (streak x h) < d = omega (arith, eqb-false) in
      let now = latest_pass d v x h (rw (streak_same x h) more) ∙ e in
      record { level = sym now; run = rw (now, not-not, streak_same x h) (omega arith); short = omega arith }

  next : (h : List Bool) (level : Bool) (r : ℕ) (x : Bool) → level ≡ latest d v h → r ≡ streak (not level) h → r < d →
      Makes d v (x ∷ h) (filter_line d (record { level = level; run = r }) x)
  unfolding filter_line
  next h true r true e f g = equal true h (sym e) (omega arith)
  next h false r false e f g = equal false h (sym e) (omega arith)
  next h true r false e f g = other false h r (sym e) f g (eqb (r + 1) d) refl
  next h false r true e f g = other true h r (sym e) f g (eqb (r + 1) d) refl

  filtered_next : (h : List Bool) (l : Line) (x : Bool) → Makes d v h l → Makes d v (x ∷ h) (filter_line d l x)
  filtered_next h l x m = next h l.level l.run x m.level (m.run ∙ ap (λ (b : Bool). streak (not b) h) (sym m.level)) m.short

  is : (h : List Bool) (l : Line) → Makes d v h l → l ≡ line_of d v h
  is h l m = λ i. record { level = m.level i; run = m.run i }

  made : 0 < d → (h : List Bool) → Makes d v h (line_of d v h)
  unfolding streak
  made g [] = record { level = refl; run = refl; short = g }
  made g (x ∷ h) =
      let m = filtered_next h (line_of d v h) x (made g h) in
      record { level = refl; run = refl; short = rw (is (x ∷ h) (filter_line d (line_of d v h) x) m) at m.short }

  -- The run of such a line is below the depth.
  pub line_short : 0 < d → (h : List Bool) → (line_of d v h).run < d
  line_short g h = (made g h).short

  level_start : (r : ℕ) → r < d → latest d v (replicate r (not v)) ≡ v
  unfolding latest
  level_start zero g = refl
  level_start (suc r) g = latest_pass d v (not v) (replicate r (not v)) (rw (streak_replicate (suc r) (not v)) g)
      ∙ level_start r (omega arith)

  -- A starting run r is as good as r samples of the other level.
  pub line_start : (r : ℕ) → r < d → line_of d v (replicate r (not v)) ≡ record { level = v; run = r }
  line_start r g = rw (level_start r g, streak_replicate r (not v))

  -- The filter at depth d makes of each line what its raw samples say.
  pub filter_latest : 0 < d → (h : List Bool) (x : Bool) → filter_line d (line_of d v h) x ≡ line_of d v (x ∷ h)
  filter_latest g h x = is (x ∷ h) (filter_line d (line_of d v h) x) (filtered_next h (line_of d v h) x (made g h))
