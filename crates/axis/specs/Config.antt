-- What an axis may be set up as: docs/RULES.md, "Calls that name one axis", Setup.
use Rattle.std.specs.Prelude.{ℕ, ◌^◌, ◌<◌, ◌≤◌, ◌≡◌, Bool, true, ◌&&◌, ◌||◌, eqb, leb, ltb, cond, Result, Ok, Err}
use Rattle.axis.specs.Kind.{COUNTER, sampled_kind, counter_kind}
use Rattle.axis.specs.declared.config.Config.{Config}
use Rattle.axis.specs.declared.config.OutsideLimits.{OutsideLimits}
use Rattle.axis.specs.declared.config.Setting.{Setting}

-- Kinds 1, 2, 4 need depth 1 to 8 and width 0; counts per turn are below 2 ^ 32.
abbrev pub sampled_config : ℕ → ℕ → ℕ → ℕ → Bool
sampled_config kind depth width turn =
    sampled_kind kind && leb 1 depth && leb depth 8 && eqb width 0 && ltb turn (2 ^ 32)

-- Kind 8 needs width 2 to 32, depth 0 and counts per turn 0.
abbrev pub counter_config : ℕ → ℕ → ℕ → ℕ → Bool
counter_config kind depth width turn =
    counter_kind kind && leb 2 width && leb width 32 && eqb depth 0 && eqb turn 0

-- Whether kind, depth, width and counts per turn are a configuration.
unfoldable pub good_config : ℕ → ℕ → ℕ → ℕ → Bool
good_config kind depth width turn = sampled_config kind depth width turn || counter_config kind depth width turn

-- The four numbers of a configuration.
abbrev pub setting_of : Config → Setting
setting_of c = record { kind = c.kind; depth = c.depth; width = c.width; turn = c.turn }

-- A setting within the limits is the configuration of its four numbers, and any other is refused.
abbrev pub configured : Setting → Result Config OutsideLimits
configured s =
    cond (good_config s.kind s.depth s.width s.turn) (Ok (record { kind = s.kind; depth = s.depth; width = s.width; turn = s.turn }))
    (Err (record {}))

-- The limits of a sampled axis's configuration.
pub record SampledSetting (c : Config) : Type 0 where
  pub kind : sampled_kind c.kind ≡ true
  pub shallow : 1 ≤ c.depth
  pub deep : c.depth ≤ 8
  pub width : c.width ≡ 0
  pub turn : c.turn < 2 ^ 32

-- The limits of a counter's.
pub record CounterSetting (c : Config) : Type 0 where
  pub kind : c.kind ≡ COUNTER
  pub narrow : 2 ≤ c.width
  pub wide : c.width ≤ 32
  pub depth : c.depth ≡ 0
  pub turn : c.turn ≡ 0
