-- Depth 1, x4, from a first sample on and with no call between: E stands at exactly the
-- samples with a move of two, and the position moves as the shaft does.
use mathlib.Core.Path.{◌≡◌, refl, sym, ◌∙◌, ap, ap₂}
use mathlib.Core.Bool.{true, false}
use mathlib.Core.List.{List, [], ◌∷◌, ◌++◌}
use Prim.Native.Nat.{ℕ, ◌≤◌}
use native.Mathlib.Omega.{arith}
use lib.Dec.{eqb}
use lib.IntN.{ℤ, ◌+ℤ◌, ◌-ℤ◌}
use Rattle.integers.proofs.Balance.{bal_add, bal_sub, eq_z}
use Rattle.position.specs.Position.{position_of}
use Rattle.axis.specs.Kind.{X4}
use Rattle.axis.specs.declared.row.Axis.{Axis}
use Rattle.axis_decode.specs.Decode.{entry, is_e}
use Rattle.axis_sample.specs.Step.{step_axis}
use Rattle.axis_decode.specs.declared.Move.{Move}
use Rattle.history_axis.specs.Acts.{after, Legal}
use Rattle.history_axis.specs.Start.{Start}
use Rattle.history_axis.specs.Levels.{primed_at}
use Rattle.history_axis.specs.Entries.{code_at, entry_at, double_at}
use Rattle.history_axis.specs.Homing.{homes_at}
use Rattle.history_axis.specs.Tally.{onward, walked, ranged, place_tally, position_at, range_at}
use Rattle.history_axis.specs.Shaft.{angle_code, ShaftSample, raw_at, watched, angle_at, turned_by, AtMostTwo, Undisturbed}
use Rattle.history_axis.proofs.AngleLaws.{expected, expected_double, expected_worth, entry_shown, code_at_lem}
use Rattle.history_axis.proofs.EntriesLaws.{entry_primed, double_entry}
use Rattle.history_axis.proofs.TallyLaws.{one_clear}
use Rattle.history_axis.proofs.HistoryLaws.{position_walk, range_history, double_bit}

still : (p a : ℤ) → p ≡ p +ℤ (a -ℤ a)
still p a = eq_z p (p +ℤ (a -ℤ a)) (omega (arith, bal_add p (a -ℤ a), bal_sub a a))

joined : (p a b c : ℤ) → (p +ℤ (b -ℤ a)) +ℤ (c -ℤ b) ≡ p +ℤ (c -ℤ a)
joined p a b c =
    eq_z ((p +ℤ (b -ℤ a)) +ℤ (c -ℤ b)) (p +ℤ (c -ℤ a))
    (omega (arith, bal_add (p +ℤ (b -ℤ a)) (c -ℤ b), bal_add p (b -ℤ a), bal_sub b a, bal_sub c b, bal_add p (c -ℤ a), bal_sub c a))

-- A shaft's samples are accepted.
pub legal_watched : (first : ShaftSample) (ts : List ShaftSample) → Legal (watched first ts)
unfolding watched
legal_watched first [] = (tt, tt)
legal_watched first (t ∷ ts) = (tt, legal_watched first ts)

primed_watched : (x : Axis) (first : ShaftSample) (ts : List ShaftSample) → primed_at x (watched first ts) ≡ true
unfolding watched primed_at
primed_watched x first [] = refl
primed_watched x first (t ∷ ts) = refl

-- ---- one sample

module _ (x : Axis) (start : Start x) (kind : x.config.kind ≡ X4) (depth : x.config.depth ≡ 1) (first : ShaftSample) where
  code_watched : (ts : List ShaftSample) → code_at x (watched first ts) ≡ angle_code (angle_at first ts)
  unfolding watched angle_at
  code_watched [] = code_at_lem x depth first []
  code_watched (t ∷ ts) = code_at_lem x depth t (watched first ts)

  -- The net move from the newest sample to the sample t.
  move : List ShaftSample → ShaftSample → ℤ
  move ts t = t.angle -ℤ angle_at first ts

  entry_watched : (ts : List ShaftSample) (t : ShaftSample) → turned_by first ts t ≤ 2 →
      entry_at x (raw_at t) (watched first ts) ≡ expected (move ts t) ∷ []
  unfolding turned_by move
  entry_watched ts t g =
      entry_primed x (raw_at t) (watched first ts) (primed_watched x first ts)
      ∙ rw (code_watched ts, code_at_lem x depth t (watched first ts))
      (ap (λ (m : Move). m ∷ [])
      (ap (λ (k : ℕ). entry k (angle_code (angle_at first ts)) (angle_code t.angle)) kind ∙ entry_shown (angle_at first ts) t.angle g))

  double_watched : (ts : List ShaftSample) (t : ShaftSample) → turned_by first ts t ≤ 2 →
      double_at x (raw_at t) (watched first ts) ≡ is_e (expected (move ts t))
  double_watched ts t g = double_entry x (raw_at t) (watched first ts) (expected (move ts t)) (entry_watched ts t g)

  -- Where no move is above two quarter steps, E stands at exactly the samples with two.
  pub double_at_two : (ts : List ShaftSample) (t : ShaftSample) → turned_by first ts t ≤ 2 →
      (step_axis (after x (watched first ts)) (raw_at t)).double ≡ eqb (turned_by first ts t) 2
  unfolding turned_by move
  double_at_two ts t g =
      double_bit x start (watched first ts) (legal_watched first ts) (raw_at t)
      ∙ double_watched ts t g
      ∙ expected_double (move ts t) g

  -- ---- a stretch of samples

  tally_next : (ts : List ShaftSample) (t : ShaftSample) → turned_by first ts t ≤ 2 → homes_at x (raw_at t) (watched first ts) ≡ false →
      place_tally x (watched first (t ∷ ts)) ≡ onward (expected (move ts t) ∷ []) (place_tally x (watched first ts))
  unfolding place_tally watched
  tally_next ts t g n = rw (n, entry_watched ts t g)

  stretch : (old new : List ShaftSample) → AtMostTwo first old new → Undisturbed x first old new →
      range_at x (watched first (new ++ old)) ≡ false →
      position_at x (watched first (new ++ old))
      ≡ position_at x (watched first old) +ℤ (angle_at first (new ++ old) -ℤ angle_at first old)
  unfolding angle_at move
  stretch old [] g p r = still (position_at x (watched first old)) (angle_at first old)
  stretch old (t ∷ new) g p r =
      let ts = new ++ old in
      let m = expected (move ts t) in
      let e = tally_next ts t g.0 p.1 in
      let c = one_clear (place_tally x (watched first ts)) m (ap ranged (sym e) ∙ r) in
      ap walked e
      ∙ c.1
      ∙ ap₂ (λ (a b : ℤ). a +ℤ b) (stretch old new g.1 p.2 c.0)
      (expected_worth (move ts t) (sym (double_watched ts t g.0) ∙ p.0))
      ∙ joined (position_at x (watched first old)) (angle_at first old) (angle_at first ts) t.angle

  -- Over any stretch of samples without E or homing, also after an earlier E, the
  -- position moves exactly as the shaft does, where RANGE is clear.
  pub moves_as_shaft : (old new : List ShaftSample) → AtMostTwo first old new → Undisturbed x first old new →
      (after x (watched first (new ++ old))).flags.range ≡ false →
      position_of (after x (watched first (new ++ old))).word
      ≡ position_of (after x (watched first old)).word +ℤ (angle_at first (new ++ old) -ℤ angle_at first old)
  moves_as_shaft old new g p r =
      let now = watched first (new ++ old) in
      let then = watched first old in
      position_walk x start now (legal_watched first (new ++ old))
      ∙ stretch old new g p (sym (range_history x start now (legal_watched first (new ++ old))) ∙ r)
      ∙ ap (λ (z : ℤ). z +ℤ (angle_at first (new ++ old) -ℤ angle_at first old)) (sym (position_walk x start then (legal_watched first old)))
