-- Which rows are sound: docs/RULES.md, "One row, four words".
use Rattle.std.specs.Prelude.{ℕ, ◌-◌, ◌^◌, ◌<◌, ◌≤◌, ◌≡◌, Bool, true, false, cond, not, ◌&&◌, ◌||◌, eqb, leb, ltb, get_or, length}
use Rattle.position.specs.Position.{is_word, Word}
use Rattle.fields.specs.Field.{field_of}
use Rattle.axis.specs.Kind.{COUNTER}
use Rattle.axis.specs.Config.{sampled_config, counter_config, SampledSetting}
use Rattle.axis.specs.Row.{axis_of, word1_of, word2_of, waiting, Waits, fresh_at}
use Rattle.axis.specs.declared.config.Config.{Config}
use Rattle.axis.specs.declared.row.Axis.{Axis}
use Rattle.axis.specs.declared.row.Pace.{Pace}
use Rattle.axis.specs.declared.row.Row.{Row}
use Rattle.axis_sound.specs.declared.Status.{Status}
use Rattle.axis_sound.specs.declared.Status.TheVariants.{Empty, Sampled, Counter, Broken}

-- Four zero words.
abbrev pub is_empty : Row → Bool
is_empty r = eqb r.w0 0 && eqb r.w1 0 && eqb r.w2 0 && eqb r.w3 0

-- Word 0 is that of a position, the bits of word 1 that have no name are 0, and word 3 is below 2 ^ 32.
abbrev pub is_plain : Row → Bool
is_plain r = is_word r.w0 && eqb (field_of 31 1 r.w1) 0 && eqb (field_of 50 14 r.w1) 0 && ltb r.w3 (2 ^ 32)

-- Words 1 and 2 are those of the axis that waits at the same configuration, position and ARMED.
abbrev pub is_waiting : Axis → Bool
is_waiting a =
    let b = waiting a.config a.word a.flags.armed in
    eqb (word1_of a) (word1_of b) && eqb (word2_of a) (word2_of b)

-- Each run is below the depth.
abbrev pub is_short : Axis → Bool
is_short a =
    let d = a.config.depth in
    ltb (get_or a.runs 0 0) d && ltb (get_or a.runs 1 0) d && ltb (get_or a.runs 2 0) d

-- Direction is not 3, and period is at most 2 ^ 32 - 2, and 0 where direction is 0.
abbrev pub is_paced : Pace → Bool
is_paced p = not (eqb p.direction 3) && leb p.period (2 ^ 32 - 2) && (not (eqb p.direction 0) || eqb p.period 0)

-- The rest of a sampled axis: short runs, ARMED and HOMED not both, a sound pace, INDEX only with counts per turn, waiting where PRIMED is
-- 0.
abbrev pub is_consistent : Axis → Bool
is_consistent a =
    is_short a
    && not (a.flags.armed && a.flags.homed)
    && is_paced a.pace
    && (not a.flags.index || ltb 0 a.config.turn)
    && (a.flags.primed || is_waiting a)

-- A sampled row: a sampled configuration, and consistent beyond it.
abbrev pub is_sampled : Row → Bool
is_sampled r =
    is_plain r
    && sampled_config (field_of 0 4 r.w1) (field_of 4 4 r.w1) (field_of 8 6 r.w1) r.w3
    && is_consistent (axis_of r)

-- A counter row: a counter's configuration, and 0 in bits 14 to 63 of word 1 and in word 2.
abbrev pub is_counter : Row → Bool
is_counter r =
    is_plain r
    && counter_config (field_of 0 4 r.w1) (field_of 4 4 r.w1) (field_of 8 6 r.w1) r.w3
    && eqb (field_of 14 50 r.w1) 0
    && eqb r.w2 0

-- What a row is: empty, sampled or counter, and broken where it is none of these.
unfoldable pub status_of : Row → Status
status_of r = cond (is_empty r) Empty (cond (is_sampled r) Sampled (cond (is_counter r) Counter Broken))

-- A row with the low 32 bits of word 3, which are all of it in every row that is not broken.
abbrev pub low_row : Row → Row
low_row r = record { w0 = r.w0; w1 = r.w1; w2 = r.w2; w3 = field_of 0 32 r.w3 }

-- The test that a row of each status passes; a broken row passes none of the other three.
unfoldable pub passes : Status → Row → Bool
passes Empty r = is_empty r
passes Sampled r = is_sampled r
passes Counter r = is_counter r
passes Broken r = not (is_empty r) && not (is_sampled r) && not (is_counter r)

-- The limits of a sampled axis's direction, age and period.
pub record SoundPace (p : Pace) : Type 0 where
  pub direction : p.direction < 3
  pub period : p.period ≤ 2 ^ 32 - 2
  pub resting : p.direction ≡ 0 → p.period ≡ 0
  pub age : p.age < 2 ^ 32

-- An axis that a sampled row holds.
pub record SampledAxis (a : Axis) : Type 0 where
  pub word : Word a.word
  pub config : SampledSetting a.config
  pub run_a : get_or a.runs 0 0 < a.config.depth
  pub run_b : get_or a.runs 1 0 < a.config.depth
  pub run_z : get_or a.runs 2 0 < a.config.depth
  pub apart : a.flags.armed && a.flags.homed ≡ false
  pub pace : SoundPace a.pace
  pub index : a.flags.index ≡ true → 0 < a.config.turn
  pub unprimed : a.flags.primed ≡ false → Waits a
  pub doubles : a.doubles < 2 ^ 16
  pub levels : length a.levels ≡ 3
  pub runs : length a.runs ≡ 3

-- The configuration of a counter of a width.
abbrev pub counter_of : ℕ → Config
counter_of width = record { kind = COUNTER; depth = 0; width = width; turn = 0 }

-- An axis that a counter row holds: all but its width and its word is as setup leaves it.
pub record CounterAxis (a : Axis) : Type 0 where
  pub word : Word a.word
  pub narrow : 2 ≤ a.config.width
  pub wide : a.config.width ≤ 32
  pub rest : a ≡ fresh_at (counter_of a.config.width) a.word
