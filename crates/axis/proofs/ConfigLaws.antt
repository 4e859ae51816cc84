-- What the test of a configuration says of it.
use Prim.Native.Nat.{ℕ, ◌^◌, ◌<◌}
use native.Mathlib.Omega.{arith}
use mathlib.Core.Path.{◌≡◌, refl, sym}
use mathlib.Core.Logic.{◌⊎◌, inl, inr, ⊎_elim}
use mathlib.Core.Bool.{Bool, true, false, ◌||◌, true≢false}
use lib.Dec.{eqb, leb, ltb}
use borrow.Author.Tests.{eqb-true, leb-true, ltb-true, eq-eqb, le-leb, lt-ltb}
use Rattle.axis.specs.Kind.{X1, X2, X4, COUNTER, sampled_kind}
use Rattle.axis.specs.Config.{sampled_config, counter_config, good_config, SampledSetting, CounterSetting}
use Rattle.axis.specs.Row.{ConfigFits}
use Rattle.axis.specs.declared.config.Config.{Config}
use Rattle.axis.proofs.TestLaws.{both}

module _ (c : Config) where
  -- A configuration that passes the test of a sampled one is within its limits.
  pub sampled_setting : sampled_config c.kind c.depth c.width c.turn ≡ true → SampledSetting c
  sampled_setting e =
      let h4 = both _ (ltb c.turn (2 ^ 32)) e in
      let h3 = both _ (eqb c.width 0) h4.0 in
      let h2 = both _ (leb c.depth 8) h3.0 in
      let h1 = both _ (leb 1 c.depth) h2.0 in
      record {
        kind = h1.0;
        shallow = leb-true 1 c.depth h1.1;
        deep = leb-true c.depth 8 h2.1;
        width = eqb-true c.width 0 h3.1;
        turn = ltb-true c.turn (2 ^ 32) h4.1;
      }

  -- One within those limits passes it.
  pub sampled_passes : SampledSetting c → sampled_config c.kind c.depth c.width c.turn ≡ true
  sampled_passes s =
      rw (
        s.kind,
        le-leb 1 c.depth s.shallow,
        le-leb c.depth 8 s.deep,
        eq-eqb c.width 0 s.width,
        lt-ltb c.turn (2 ^ 32) s.turn,
      )

  -- A configuration that passes the test of a counter's is within its limits.
  pub counter_setting : counter_config c.kind c.depth c.width c.turn ≡ true → CounterSetting c
  counter_setting e =
      let h4 = both _ (eqb c.turn 0) e in
      let h3 = both _ (eqb c.depth 0) h4.0 in
      let h2 = both _ (leb c.width 32) h3.0 in
      let h1 = both _ (leb 2 c.width) h2.0 in
      record {
        kind = eqb-true c.kind COUNTER h1.0;
        narrow = leb-true 2 c.width h1.1;
        wide = leb-true c.width 32 h2.1;
        depth = eqb-true c.depth 0 h3.1;
        turn = eqb-true c.turn 0 h4.1;
      }

-- The kind of a sampled axis is within its field.
kind_below : (k : ℕ) → sampled_kind k ≡ true → k < 2 ^ 4
kind_below k e = go (eqb k X1) (eqb k X2) (eqb k X4) refl refl refl e
  where
    go : (p q r : Bool) → eqb k X1 ≡ p → eqb k X2 ≡ q → eqb k X4 ≡ r → p || q || r ≡ true → k < 2 ^ 4
    go true q r a b c h = omega (arith, eqb-true)
    go false true r a b c h = omega (arith, eqb-true)
    go false false true a b c h = omega (arith, eqb-true)
    go false false false a b c h = absurd (true≢false (sym h))

-- The configuration of a sampled axis is within its fields.
pub setting_slim : {c : Config} → SampledSetting c → ConfigFits c
setting_slim {c} s = record { kind = kind_below c.kind s.kind; depth = omega (arith, s.deep); width = omega (arith, s.width) }

-- A configuration is a sampled one or a counter's.
pub good_cases : (c : Config) → good_config c.kind c.depth c.width c.turn ≡ true → SampledSetting c ⊎ CounterSetting c
unfolding good_config
good_cases c e = go (sampled_config c.kind c.depth c.width c.turn) refl e
  where
    go : (b : Bool) → sampled_config c.kind c.depth c.width c.turn ≡ b →
        b || counter_config c.kind c.depth c.width c.turn ≡ true → SampledSetting c ⊎ CounterSetting c
    go true h e = inl (sampled_setting c h)
    go false h e = inr (counter_setting c e)

-- A configuration is within its fields.
pub good_slim : (c : Config) → good_config c.kind c.depth c.width c.turn ≡ true → ConfigFits c
good_slim c e = ⊎_elim setting_slim slim (good_cases c e)
  where
    slim : CounterSetting c → ConfigFits c
    slim s = record { kind = omega (arith, s.kind); depth = omega (arith, s.depth); width = omega (arith, s.wide) }

-- Four numbers that are a configuration fit its types.
pub fitting : (k d v n : ℕ) → good_config k d v n ≡ true → (k < 2 ^ 8) × (d < 2 ^ 8) × (v < 2 ^ 8) × (n < 2 ^ 32)
fitting k d v n e =
    let c : Config = record { kind = k; depth = d; width = v; turn = n } in
    let h = good_slim c e in
    let few : n < 2 ^ 32 = ⊎_elim (λ s. s.turn) (λ s. omega (arith, s.turn)) (good_cases c e) in
    (omega (arith, h.kind), omega (arith, h.depth), omega (arith, h.width), few)
