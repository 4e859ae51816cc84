-- The laws of speed by period: each answer exactly where it is due, what it divides and what it leaves.
use Rattle.std.specs.Prelude.{Ok, Err}
use Prim.Native.Nat.{ℕ, zero, suc, ◌-◌, ◌*◌, ◌^◌, ◌<◌, ◌≤◌}
use native.Mathlib.Omega.{arith}
use mathlib.Core.Path.{◌≡◌, refl}
use mathlib.Core.Logic.{◌⊎◌, inl, inr, ⊎_elim}
use mathlib.Core.Bool.{Bool, true, false, cond}
use lib.Dec.{eqb, lit<}
use lib.IntN.{ℤ, pos, negsuc, nat_abs, ◌-ℤ◌, ◌*ℤ◌}
use borrow.Author.Tests.{eq-eqb, ne_eqb, le-leb}
use Rattle.integers.proofs.Balance.{Decided, yes, no, test}
use Rattle.refusal.specs.declared.Refusal.TheVariants.{Kind as KIND, Value as VALUE, NoPeriod as NO-PERIOD}
use Rattle.speed.specs.Rounding.{divided, Divides}
use Rattle.speed.specs.Speed.{speed_refusal, good_count, good_samples, good_rate, good_speed, speed_by_count}
use Rattle.speed.specs.declared.Quotient.{Quotient}
use Rattle.speed.proofs.RoundingLaws.{near}
use Rattle.speed.proofs.SpeedLaws.{unsped_not, speed_divides as count-divides, speed_divisor as count-divisor}
use Rattle.axis.specs.Row.{axis_of}
use Rattle.axis_sound.specs.Sound.{status_of, SoundPace}
use Rattle.axis.specs.declared.row.Pace.{Pace}
use Rattle.axis.specs.declared.row.Row.{Row}
use Rattle.axis_sound.specs.declared.Status.TheVariants.{Sampled, Counter}
use Rattle.axis_sound.proofs.SoundLaws.{sampled_gives}
use Rattle.row_speed.specs.Speed.{sign_of, span_of, speed_of, speed_row}
use Rattle.row_calls.specs.Reasons.{StatusReasons}
use Rattle.row_calls.proofs.StatusLaws.{live}
use Rattle.row_calls.proofs.ReasonLaws.{Past, sampled_only}

-- One count is within the limits of a count difference.
sign_good : (direction : ℕ) → good_count (sign_of direction) ≡ true
unfolding good_count
sign_good direction = go (eqb direction 2)
  where
    go : (b : Bool) → good_count (cond b (negsuc 0) (pos 1)) ≡ true
    go true = refl
    go false = refl

-- So is the span of a sound pace with a period within those of a number of samples.
span_good : {p : Pace} → SoundPace p → 0 < p.period → good_samples (span_of p) ≡ true
span_good {p} s h =
    let t : span_of p ≤ 2 ^ 32 - 1 = omega (arith, s.period, s.age) in
    let o : 1 ≤ span_of p = omega arith in
    rw (le-leb 1 (span_of p) o, le-leb (span_of p) (2 ^ 32 - 1) t)

-- A direction other than 0 and 3.
one_or_two : (d : ℕ) → d < 3 → (d ≡ 0 → ⊥) → (d ≡ 1) ⊎ (d ≡ 2)
one_or_two zero l some = absurd (some refl)
one_or_two (suc zero) l some = inl refl
one_or_two (suc (suc zero)) l some = inr refl
one_or_two (suc (suc (suc d))) l some = absurd (let far : ⊥ = omega arith in far)

module _ (rate : ℕ) (r : Row) (sampled : status_of r ≡ Sampled) where
  abbrev pace : Pace
  pace = (axis_of r).pace

  -- On a sampled row a rate outside its limits is VALUE, whatever the period.
  pub speed_value : good_rate rate ≡ false → speed_row rate r ≡ Err VALUE
  unfolding speed_row speed_of
  speed_value h = rw (sampled, h)

  -- Within them a period of 0 is NO PERIOD.
  pub speed_still : good_rate rate ≡ true → pace.period ≡ 0 → speed_row rate r ≡ Err NO-PERIOD
  unfolding speed_row speed_of
  speed_still h z = rw (sampled, h, eq-eqb pace.period 0 z)

  -- Any other period gives a speed: the direction's sign times 1000 F over the larger of period and age.
  pub speed_moving : good_rate rate ≡ true → 0 < pace.period →
      speed_row rate r ≡ Ok (divided (sign_of pace.direction *ℤ pos (1000 * rate)) (span_of pace))
  unfolding speed_row speed_of speed_by_count good_speed
  speed_moving h p =
      let some = ne_eqb pace.period 0 (λ z. let idle : ⊥ = omega arith in idle) in
      rw (sampled, h, some, sign_good pace.direction, span_good (sampled_gives r sampled).pace p)

  -- And then the direction is forward, 1, or back, 2.
  pub speed_direction : 0 < pace.period → (pace.direction ≡ 1) ⊎ (pace.direction ≡ 2)
  speed_direction p =
      let s = (sampled_gives r sampled).pace in
      one_or_two pace.direction s.direction (λ z. let idle : ⊥ = omega (arith, s.resting z) in idle)

-- ---- reasons, before what a speed was reckoned from: an answer with VALUE before KIND is refused here

count_past : (D : ℤ) (T F : ℕ) → Past (speed_refusal (speed_by_count D T F))
unfolding Past speed_by_count
count_past D T F = go (test (good_speed D T F))
  where
    go : Decided (good_speed D T F) → Past (speed_refusal (speed_by_count D T F))
    go (yes g) = rw g (inl refl)
    go (no g) = rw g (inr (lit< tt))

pub speed_past : (rate : ℕ) (p : Pace) → Past (speed_refusal (speed_of rate p))
unfolding Past speed_of
speed_past rate p = go (test (good_rate rate)) (test (eqb p.period 0))
  where
    go : Decided (good_rate rate) → Decided (eqb p.period 0) → Past (speed_refusal (speed_of rate p))
    go (no g) t = rw g (inr (lit< tt))
    go (yes g) (yes z) = rw (g, z) (inr (lit< tt))
    go (yes g) (no z) = rw (g, z) (count_past (sign_of p.direction) (span_of p) rate)

-- Speed by period takes sampled rows.
pub speed_reasons : (rate : ℕ) (r : Row) → StatusReasons (speed_refusal (speed_row rate r)) (status_of r) (status_of r ≡ Counter)
unfolding speed_row
speed_reasons rate r =
    let pace = (axis_of r).pace in
    sampled_only speed_refusal Err (λ e. refl) (speed_of rate pace) (speed_past rate pace) (status_of r)

-- ---- what it was reckoned from

-- A speed is one by count, of one count over the larger of period and age.
speed_from : (rate : ℕ) (r : Row) (q : Quotient) → speed_row rate r ≡ Ok q →
    speed_by_count (sign_of (axis_of r).pace.direction) (span_of (axis_of r).pace) rate ≡ Ok q
unfolding speed_row speed_of
speed_from rate r q e =
    ⊎_elim
    (λ h. go (test (good_rate rate)) (test (eqb (axis_of r).pace.period 0)) h.1)
    (λ h. absurd (unsped_not q KIND h.1))
    (live Err (speed_of rate (axis_of r).pace) (Err KIND) (Ok q) (unsped_not q) (status_of r) e)
  where
    go : Decided (good_rate rate) → Decided (eqb (axis_of r).pace.period 0) → speed_of rate (axis_of r).pace ≡ Ok q →
        speed_by_count (sign_of (axis_of r).pace.direction) (span_of (axis_of r).pace) rate ≡ Ok q
    go (no g) t h = absurd (unsped_not q VALUE (rw g at h))
    go (yes g) (yes z) h = absurd (unsped_not q NO-PERIOD (rw (g, z) at h))
    go (yes g) (no z) h = rw (g, z) at h

module _ (rate : ℕ) (r : Row) (q : Quotient) (e : speed_row rate r ≡ Ok q) where
  -- The divisor T is the larger of period and age, and number times T plus remainder is exactly 1000 F, F with the direction's sign.
  pub speed_divides : Divides (sign_of (axis_of r).pace.direction *ℤ pos (1000 * rate)) (span_of (axis_of r).pace) q
  speed_divides = count-divides (sign_of (axis_of r).pace.direction) (span_of (axis_of r).pace) rate q (speed_from rate r q e)

  -- It is from 1 to 2 ^ 32 - 1.
  pub speed_divisor : (1 ≤ q.divisor) × (q.divisor ≤ 2 ^ 32 - 1)
  speed_divisor = count-divisor (sign_of (axis_of r).pace.direction) (span_of (axis_of r).pace) rate q (speed_from rate r q e)

  -- Twice |v T - 1000 F| is at most T.
  pub speed_bound : 2 * nat_abs ((q.number *ℤ pos (span_of (axis_of r).pace))
      -ℤ (sign_of (axis_of r).pace.direction *ℤ pos (1000 * rate))) ≤ span_of (axis_of r).pace
  speed_bound = near speed_divides
