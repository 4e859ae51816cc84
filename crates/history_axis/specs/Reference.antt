-- A shaft whose index line is a function of its angle, and where its position is 0: docs/RULES.md, "A port sample", Index. Angles are whole
-- quarter steps, and the axis is x4 at depth 1.
use Rattle.std.specs.Prelude.{ℕ, ◌≤◌, ◌≡◌, Bool, true, false, List, ◌∷◌, ℤ, pos, nat_abs, ◌-ℤ◌, ◌*ℤ◌}
use Rattle.axis.specs.declared.row.Axis.{Axis}
use Rattle.axis_filter.specs.declared.Raw.{Raw}
use Rattle.history_axis.specs.Acts.{Act, sampled, preset, arm, acknowledge}
use Rattle.history_axis.specs.Homing.{homes_at}
use Rattle.history_axis.specs.Tally.{position_at}
use Rattle.history_axis.specs.Shaft.{raw_at}

-- The sample of a shaft at an angle, where z says Z's level at each.
abbrev pub shown : (ℤ → Bool) → ℤ → Raw
shown z angle = raw_at (record { angle = angle; z = z angle })

-- An edge lies at the angle a: Z is 0 a quarter step before it, and 1 at it.
pub record EdgeAngle (z : ℤ → Bool) (a : ℤ) : Type 0 where
  pub before : z (a -ℤ pos 1) ≡ false
  pub at : z a ≡ true

-- A move from the angle b to the angle c goes over the angle a, one quarter step forward or backward.
pub data Over (a b c : ℤ) : Type 0 where
  ahead : b ≡ a -ℤ pos 1 → c ≡ a → Over a b c
  astern : b ≡ a → c ≡ a -ℤ pos 1 → Over a b c

-- It goes over an edge.
pub record OverEdge (z : ℤ → Bool) (b c : ℤ) : Type 0 where
  pub angle : ℤ
  pub edge : EdgeAngle z angle
  pub over : Over angle b c

-- Where the position is 0: at an angle that a first sample or a preset set, or at the edge that was homed over.
pub data Zero : Type 0 where
  set homed : ℤ → Zero

-- The angle of that.
abbrev pub zero_angle : Zero → ℤ
zero_angle (set a) = a
zero_angle (homed a) = a

-- A move of at most one quarter step.
abbrev pub Near : ℤ → ℤ → Type 0
Near b c = nat_abs (c -ℤ b) ≤ 1

-- Acts that show a shaft, newest first, after others: a first sample, on which nothing homes, and then samples one quarter step on at the
-- most, with calls between; the angle that the shaft is at, and where its position is 0.
pub data Follows (z : ℤ → Bool) (x : Axis) : List Act → ℤ → Zero → Type 0 where
  first : (h : List Act) (b : ℤ) → homes_at x (shown z b) h ≡ false →
      Follows z x (sampled (shown z b) ∷ h) b (set (b -ℤ position_at x (sampled (shown z b) ∷ h)))
  turns : {h : List Act} {b : ℤ} {o : Zero} → Follows z x h b o → (c : ℤ) → Near b c → homes_at x (shown z c) h ≡ false →
      Follows z x (sampled (shown z c) ∷ h) c o
  homes : {h : List Act} {b : ℤ} {o : Zero} → Follows z x h b o → (c : ℤ) → homes_at x (shown z c) h ≡ true →
      (a : ℤ) → Over a b c → Follows z x (sampled (shown z c) ∷ h) c (homed a)
  presets : {h : List Act} {b : ℤ} {o : Zero} → Follows z x h b o → (p : ℤ) → Follows z x (preset p ∷ h) b (set (b -ℤ p))
  arms : {h : List Act} {b : ℤ} {o : Zero} → Follows z x h b o → Follows z x (arm ∷ h) b o
  acknowledges : {h : List Act} {b : ℤ} {o : Zero} → Follows z x h b o → Follows z x (acknowledge ∷ h) b o

-- Two angles lie a whole number of turns apart.
pub record WholeTurns (turn : ℕ) (a b : ℤ) : Type 0 where
  pub turns : ℤ
  pub apart : a -ℤ b ≡ turns *ℤ pos turn
