-- The laws of what is within its limits: which kind it is of, and that its fields hold it.
use mathlib.Core.Path.{◌≡◌, refl}
use mathlib.Core.Bool.{Bool, true, false, ◌||◌}
use mathlib.Core.Logic.{◌⊎◌, inl, inr, ⊎_elim}
use Prim.Native.Nat.{ℕ, ◌^◌, ◌≤◌, ◌<◌}
use native.Mathlib.Omega.{arith}
use borrow.Author.Tests.{eqb-true, eq-eqb}
use lib.Dec.{eqb}
use mir.Syntax.{w64}
use mir.Val.{SFits}
use Rattle.integers.proofs.Machine.{fits_size}
use Rattle.position.specs.Position.{in_range}
use Rattle.position.proofs.PositionLaws.{range_is}
use Rattle.axis.specs.declared.config.Config.{Config}
use Rattle.axis.specs.Kind.{X1, X2, X4, COUNTER, sampled_kind, counter_kind}
use Rattle.axis.specs.Config.{sampled_config, counter_config, good_config}
use Rattle.record_axis.specs.declared.saved.Saved.{Saved}
use Rattle.axis.proofs.TestLaws.{both as and-true}
use Rattle.axis.proofs.ConfigLaws.{sampled_setting, counter_setting}
use Rattle.record_axis.specs.AxisFields.{known_kind}
use Rattle.record_axis.specs.Limits.{within_limits}

-- ---- either of two tests

or_true : (a b : Bool) → (a || b) ≡ true → (a ≡ true) ⊎ (b ≡ true)
or_true true b h = inl refl
or_true false b h = inr h

-- ---- kinds

-- A sampled kind is no counter's, and one byte holds it.
pub record SampledByte (k : ℕ) : Type 0 where
  pub other : counter_kind k ≡ false
  pub byte : k < 256

pub sampled_kind_lem : (k : ℕ) → sampled_kind k ≡ true → SampledByte k
sampled_kind_lem k h =
    ⊎_elim
    (λ g.
    ⊎_elim (λ f. at X1 (eqb-true k X1 f) refl (omega arith)) (λ f. at X2 (eqb-true k X2 f) refl (omega arith))
    (or_true (eqb k X1) (eqb k X2) g))
    (λ f. at X4 (eqb-true k X4 f) refl (omega arith))
    (or_true (eqb k X1 || eqb k X2) (eqb k X4) h)
  where
    at : (n : ℕ) → k ≡ n → counter_kind n ≡ false → n < 256 → SampledByte k
    at n e f l = record { other = rw e f; byte = rw e l }

pub known_counter : (k : ℕ) → counter_kind k ≡ true → known_kind k ≡ true
known_counter k h = rw h (go (sampled_kind k))
  where
    go : (b : Bool) → (b || true) ≡ true
    go true = refl
    go false = refl

-- ---- configurations and positions

-- What a configuration within its limits is.
pub data SoundConfig (c : Config) : Type 0 where
  sampled : sampled_kind c.kind ≡ true → c.depth ≤ 8 → c.width ≡ 0 → c.turn < 2 ^ 32 → SoundConfig c
  counter : counter_kind c.kind ≡ true → c.width ≤ 32 → c.depth ≡ 0 → c.turn ≡ 0 → SoundConfig c

pub good_config_lem : (c : Config) → good_config c.kind c.depth c.width c.turn ≡ true → SoundConfig c
unfolding good_config
good_config_lem c h = ⊎_elim first second (or_true (sampled_config k d w t) (counter_config k d w t) h)
  where
    k : ℕ
    k = c.kind

    d : ℕ
    d = c.depth

    w : ℕ
    w = c.width

    t : ℕ
    t = c.turn

    first : sampled_config k d w t ≡ true → SoundConfig c
    first g = let s = sampled_setting c g in sampled s.kind s.deep s.width s.turn

    second : counter_config k d w t ≡ true → SoundConfig c
    second g = let s = counter_setting c g in counter (eq-eqb k COUNTER s.kind) s.wide s.depth s.turn

module _ (s : Saved) (h : within_limits s ≡ true) where
  -- It is a configuration and a position.
  pub within_parts :
      (good_config s.config.kind s.config.depth s.config.width s.config.turn ≡ true) × (in_range s.position ≡ true)
  unfolding within_limits
  within_parts = and-true (good_config s.config.kind s.config.depth s.config.width s.config.turn) (in_range s.position) h

  pub within_config : SoundConfig s.config
  within_config = good_config_lem s.config within_parts.0

  pub within_position : SFits w64 s.position
  within_position = fits_size s.position (omega (arith, range_is s.position within_parts.1))
