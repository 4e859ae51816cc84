-- A row of the table, four words, and the axis that it holds: docs/RULES.md, "One row, four words".
use Rattle.std.specs.Prelude.{ℕ, ◌<◌, ◌^◌, ◌≡◌, Bool, false, List, [], ◌∷◌, get_or, length}
use Rattle.fields.specs.Field.{field_of, flag_of, bit_of}
use Rattle.fields.specs.Layout.{join}
use Rattle.axis.specs.declared.config.Config.{Config}
use Rattle.axis.specs.declared.row.Axis.{Axis}
use Rattle.axis.specs.declared.row.Flags.{Flags}
use Rattle.axis.specs.declared.row.Pace.{Pace}
use Rattle.axis.specs.declared.row.Row.{Row}

-- The widths of word 1's fields from bit 0 up: kind, depth, width, five flags, three levels, three
-- runs, a bit that is 0, doubles, direction, and fourteen bits that are 0.
abbrev pub layout : List ℕ
layout = 4 ∷ 4 ∷ 6 ∷ 1 ∷ 1 ∷ 1 ∷ 1 ∷ 1 ∷ 1 ∷ 1 ∷ 1 ∷ 3 ∷ 3 ∷ 3 ∷ 1 ∷ 16 ∷ 2 ∷ 14 ∷ []

-- The configuration of a row.
abbrev pub config_in : Row → Config
config_in r = record { kind = field_of 0 4 r.w1; depth = field_of 4 4 r.w1; width = field_of 8 6 r.w1; turn = r.w3 }

-- The flags of word 1.
abbrev pub flags_in : ℕ → Flags
flags_in w = record { primed = flag_of 14 w; armed = flag_of 15 w; homed = flag_of 16 w; range = flag_of 17 w; index = flag_of 18 w }

-- Direction, age and period of a row.
abbrev pub pace_in : Row → Pace
pace_in r = record { direction = field_of 48 2 r.w1; age = field_of 0 32 r.w2; period = field_of 32 32 r.w2 }

-- The axis of a row.
abbrev pub axis_of : Row → Axis
axis_of r = record {
  word = r.w0;
  config = config_in r;
  flags = flags_in r.w1;
  levels = flag_of 19 r.w1 ∷ flag_of 20 r.w1 ∷ flag_of 21 r.w1 ∷ [];
  runs = field_of 22 3 r.w1 ∷ field_of 25 3 r.w1 ∷ field_of 28 3 r.w1 ∷ [];
  doubles = field_of 32 16 r.w1;
  pace = pace_in r;
}

-- The values of word 1's fields, in the layout's order.
abbrev pub fields_of : Axis → List ℕ
fields_of a =
    let c = a.config in
    let f = a.flags in
    c.kind ∷ c.depth ∷ c.width
    ∷ bit_of f.primed ∷ bit_of f.armed ∷ bit_of f.homed ∷ bit_of f.range ∷ bit_of f.index
    ∷ bit_of (get_or a.levels 0 false) ∷ bit_of (get_or a.levels 1 false) ∷ bit_of (get_or a.levels 2 false)
    ∷ get_or a.runs 0 0 ∷ get_or a.runs 1 0 ∷ get_or a.runs 2 0
    ∷ 0 ∷ a.doubles ∷ a.pace.direction ∷ 0 ∷ []

-- Word 1 of an axis.
abbrev pub word1_of : Axis → ℕ
word1_of a = join 0 layout (fields_of a)

-- Word 2 of an axis: age, then period.
abbrev pub word2_of : Axis → ℕ
word2_of a = join 0 (32 ∷ 32 ∷ []) (a.pace.age ∷ a.pace.period ∷ [])

-- The row of an axis.
abbrev pub row_of : Axis → Row
row_of a = record { w0 = a.word; w1 = word1_of a; w2 = word2_of a; w3 = a.config.turn }

-- The four zero words of an erased row.
abbrev pub empty_row : Row
empty_row = record { w0 = 0; w1 = 0; w2 = 0; w3 = 0 }

-- An axis that is not primed: its configuration, its position's word, ARMED or not, and all else 0.
abbrev pub waiting : Config → ℕ → Bool → Axis
waiting c w armed = record {
  word = w;
  config = c;
  flags = record { primed = false; armed = armed; homed = false; range = false; index = false };
  levels = false ∷ false ∷ false ∷ [];
  runs = 0 ∷ 0 ∷ 0 ∷ [];
  doubles = 0;
  pace = record { direction = 0; age = 0; period = 0 };
}

-- What an axis is where PRIMED is 0: one that waits, at its own configuration, word and ARMED.
abbrev pub Waits : Axis → Type 0
Waits a = a ≡ waiting a.config a.word a.flags.armed

-- The axis that a setup makes and a position is put into: the configuration, that position's word, and all else 0.
abbrev pub fresh_at : Config → ℕ → Axis
fresh_at c w = waiting c w false

-- The axis that a setup makes: position 0.
abbrev pub fresh : Config → Axis
fresh c = fresh_at c (2 ^ 62)

-- The axis of an erased row: every field is 0.
abbrev pub blank : Axis
blank = fresh_at (record { kind = 0; depth = 0; width = 0; turn = 0 }) 0

-- Each field of a configuration is within its width in word 1.
pub record ConfigFits (c : Config) : Type 0 where
  pub kind : c.kind < 2 ^ 4
  pub depth : c.depth < 2 ^ 4
  pub width : c.width < 2 ^ 6

-- Each field of word 1 is within its width; the flags and the levels are so by themselves.
pub record Narrow (a : Axis) : Type 0 where
  pub config : ConfigFits a.config
  pub run_a : get_or a.runs 0 0 < 2 ^ 3
  pub run_b : get_or a.runs 1 0 < 2 ^ 3
  pub run_z : get_or a.runs 2 0 < 2 ^ 3
  pub doubles : a.doubles < 2 ^ 16
  pub direction : a.pace.direction < 2 ^ 2

-- An axis that a row can hold.
pub record Held (a : Axis) : Type 0 where
  pub narrow : Narrow a
  pub age : a.pace.age < 2 ^ 32
  pub period : a.pace.period < 2 ^ 32
  pub levels : length a.levels ≡ 3
  pub runs : length a.runs ≡ 3

-- Four words of 64 bits.
pub record Words (r : Row) : Type 0 where
  pub w0 : r.w0 < 2 ^ 64
  pub w1 : r.w1 < 2 ^ 64
  pub w2 : r.w2 < 2 ^ 64
  pub w3 : r.w3 < 2 ^ 64

-- Two configurations that agree field by field.
pub record SameConfig (c d : Config) : Type 0 where
  pub kind : c.kind ≡ d.kind
  pub depth : c.depth ≡ d.depth
  pub width : c.width ≡ d.width
  pub turn : c.turn ≡ d.turn

-- Flags that agree one by one.
pub record SameFlags (f g : Flags) : Type 0 where
  pub primed : f.primed ≡ g.primed
  pub armed : f.armed ≡ g.armed
  pub homed : f.homed ≡ g.homed
  pub range : f.range ≡ g.range
  pub index : f.index ≡ g.index

-- Two paces that agree field by field.
pub record SamePace (p q : Pace) : Type 0 where
  pub direction : p.direction ≡ q.direction
  pub age : p.age ≡ q.age
  pub period : p.period ≡ q.period

-- Two axes that agree part by part.
pub record SameAxis (r s : Axis) : Type 0 where
  pub word : r.word ≡ s.word
  pub config : SameConfig r.config s.config
  pub flags : SameFlags r.flags s.flags
  pub levels : r.levels ≡ s.levels
  pub runs : r.runs ≡ s.runs
  pub doubles : r.doubles ≡ s.doubles
  pub pace : SamePace r.pace s.pace
