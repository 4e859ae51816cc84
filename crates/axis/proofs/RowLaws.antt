-- The laws of a row and its axis: what is unpacked packs to the same words, and what is packed comes back.
use Prim.Native.Nat.{ℕ, zero, suc, ◌/◌, ◌^◌, ◌<◌}
use native.Mathlib.Nat.{mod-lt}
use native.Mathlib.Omega.{arith}
use mathlib.Core.Path.{◌≡◌, refl, sym, ap, ◌∙◌}
use mathlib.Core.Bool.{Bool, true, false}
use mathlib.Core.List.{List, [], ◌∷◌}
use lib.Dec.{eqb, lit<}
use lib.ListN.{get_or, length}
use Rattle.fields.specs.Field.{field_of, flag_of, bit_of}
use Rattle.fields.specs.Layout.{split, join, Within}
use Rattle.fields.proofs.LayoutLaws.{split_join, join_split, join_below}
use Rattle.axis.specs.declared.config.Config.{Config}
use Rattle.axis.specs.declared.row.Axis.{Axis}
use Rattle.axis.specs.declared.row.Flags.{Flags}
use Rattle.axis.specs.declared.row.Pace.{Pace}
use Rattle.axis.specs.declared.row.Row.{Row}
use Rattle.axis.specs.Row.{layout, fields_of, axis_of, row_of, word1_of, word2_of}
use Rattle.axis.specs.Row.{waiting, ConfigFits, Narrow, Held, Words, SameConfig, SameFlags, SamePace, SameAxis}

-- A number below 2 that is read as a flag is that bit again.
bit_flag_at : (x : ℕ) → x < 2 → bit_of (eqb x 1) ≡ x
bit_flag_at zero h = refl
bit_flag_at (suc zero) h = refl
bit_flag_at (suc (suc x)) h = absurd (omega arith)

-- A field of one bit is its flag's bit.
bit_flag : (at w : ℕ) → bit_of (flag_of at w) ≡ field_of at 1 w
bit_flag at w = bit_flag_at (field_of at 1 w) (mod-lt (w / 2 ^ at) (lit< tt))

-- A flag that is written as a bit is that flag again.
flag_bit : (b : Bool) → eqb (bit_of b) 1 ≡ b
flag_bit true = refl
flag_bit false = refl

-- A bit is below 2.
bit_below : (b : Bool) → bit_of b < 2
bit_below true = lit< tt
bit_below false = lit< tt

-- A list of three is its three elements.
pub three_of : {A : Type 0} (l : List A) (d : A) → length l ≡ 3 → get_or l 0 d ∷ get_or l 1 d ∷ get_or l 2 d ∷ [] ≡ l
three_of (x ∷ y ∷ z ∷ []) d h = refl
three_of [] d h = absurd (omega arith)
three_of (x ∷ []) d h = absurd (omega arith)
three_of (x ∷ y ∷ []) d h = absurd (omega arith)
three_of (x ∷ y ∷ z ∷ t ∷ l) d h = absurd (omega arith)

-- Configurations, flags, paces and axes that agree are one.
pub same_config : {c d : Config} → SameConfig c d → c ≡ d
same_config h = λ i. record { kind = h.kind i; depth = h.depth i; width = h.width i; turn = h.turn i }

pub same_flags : {f g : Flags} → SameFlags f g → f ≡ g
same_flags h = λ i. record { primed = h.primed i; armed = h.armed i; homed = h.homed i; range = h.range i; index = h.index i }

pub same_pace : {p q : Pace} → SamePace p q → p ≡ q
same_pace h = λ i. record { direction = h.direction i; age = h.age i; period = h.period i }

pub agree : {r s : Axis} → SameAxis r s → r ≡ s
agree h = λ i. record {
  word = h.word i;
  config = same_config h.config i;
  flags = same_flags h.flags i;
  levels = h.levels i;
  runs = h.runs i;
  doubles = h.doubles i;
  pace = same_pace h.pace i;
}

-- The axis of any row is one that a row can hold.
pub row_held : (r : Row) → Held (axis_of r)
row_held r = record { narrow = omega arith; age = omega arith; period = omega arith; levels = refl; runs = refl }

-- A row can hold an axis that waits, of a configuration within the widths of its fields.
pub waiting_held : {c : Config} → ConfigFits c → (w : ℕ) (armed : Bool) → Held (waiting c w armed)
waiting_held slim w armed = record {
  narrow = record { config = slim; run_a = lit< tt; run_b = lit< tt; run_z = lit< tt; doubles = lit< tt; direction = lit< tt };
  age = lit< tt;
  period = lit< tt;
  levels = refl;
  runs = refl;
}

-- The fields of a row's axis are those of its word 1, where the bits that have no name are 0.
pub fields_again : (r : Row) → field_of 31 1 r.w1 ≡ 0 → field_of 50 14 r.w1 ≡ 0 → fields_of (axis_of r) ≡ split 0 layout r.w1
fields_again r low high =
    let w = r.w1 in
    λ i. field_of 0 4 w ∷ field_of 4 4 w ∷ field_of 8 6 w
    ∷ bit_flag 14 w i ∷ bit_flag 15 w i ∷ bit_flag 16 w i ∷ bit_flag 17 w i ∷ bit_flag 18 w i
    ∷ bit_flag 19 w i ∷ bit_flag 20 w i ∷ bit_flag 21 w i
    ∷ field_of 22 3 w ∷ field_of 25 3 w ∷ field_of 28 3 w
    ∷ sym low i ∷ field_of 32 16 w ∷ field_of 48 2 w ∷ sym high i ∷ []

-- A row whose bits without a name are 0 is what its axis packs to.
pub row_again : (r : Row) → Words r → field_of 31 1 r.w1 ≡ 0 → field_of 50 14 r.w1 ≡ 0 → row_of (axis_of r) ≡ r
row_again r h low high = λ i. record {
  w0 = r.w0;
  w1 = (ap (join 0 layout) (fields_again r low high) ∙ join_split layout r.w1 h.w1) i;
  w2 = join_split (32 ∷ 32 ∷ []) r.w2 h.w2 i;
  w3 = r.w3;
}

-- The values of word 1's fields are within the layout.
within : (a : Axis) → Narrow a → Within layout (fields_of a)
within a h =
    let f = a.flags in
    omega (
      arith,
      bit_below f.primed,
      bit_below f.armed,
      bit_below f.homed,
      bit_below f.range,
      bit_below f.index,
      bit_below (get_or a.levels 0 false),
      bit_below (get_or a.levels 1 false),
      bit_below (get_or a.levels 2 false),
    )

-- The row of an axis that a row can hold is four words of 64 bits.
pub held_words : (a : Axis) → Held a → a.word < 2 ^ 64 → a.config.turn < 2 ^ 64 → Words (row_of a)
held_words a h w t = record {
  w0 = w;
  w1 = join_below layout (fields_of a) (within a h.narrow);
  w2 = join_below (32 ∷ 32 ∷ []) (a.pace.age ∷ a.pace.period ∷ []) (h.age, (h.period, tt));
  w3 = t;
}

-- The field at place k of the layout, packed and read.
pub back : (a : Axis) → Narrow a → (k : ℕ) → get_or (split 0 layout (word1_of a)) k 0 ≡ get_or (fields_of a) k 0
back a h k = ap (λ (l : List ℕ). get_or l k 0) (split_join layout (fields_of a) (within a h))

-- The same of a flag.
back_flag : (a : Axis) → Narrow a → (k : ℕ) (b : Bool) → get_or (fields_of a) k 0 ≡ bit_of b → eqb (get_or (split 0 layout (word1_of a)) k 0) 1 ≡ b
back_flag a h k b e = ap (λ (x : ℕ). eqb x 1) (back a h k ∙ e) ∙ flag_bit b

-- An axis that a row can hold comes back from its row as it was.
pub comes_back : (a : Axis) → Held a → axis_of (row_of a) ≡ a
comes_back a h =
    let n = h.narrow in
    let f = a.flags in
    let pace = a.pace.age ∷ a.pace.period ∷ [] in
    let two : split 0 (32 ∷ 32 ∷ []) (word2_of a) ≡ pace = split_join (32 ∷ 32 ∷ []) pace (h.age, (h.period, tt)) in
    agree (record {
      word = refl;
      config = record { kind = back a n 0; depth = back a n 1; width = back a n 2; turn = refl };
      flags = record {
        primed = back_flag a n 3 f.primed refl;
        armed = back_flag a n 4 f.armed refl;
        homed = back_flag a n 5 f.homed refl;
        range = back_flag a n 6 f.range refl;
        index = back_flag a n 7 f.index refl;
      };
      levels =
          (λ j. back_flag a n 8 (get_or a.levels 0 false) refl j
          ∷ back_flag a n 9 (get_or a.levels 1 false) refl j
          ∷ back_flag a n 10 (get_or a.levels 2 false) refl j ∷ [])
          ∙ three_of a.levels false h.levels;
      runs = (λ j. back a n 11 j ∷ back a n 12 j ∷ back a n 13 j ∷ []) ∙ three_of a.runs 0 h.runs;
      doubles = back a n 15;
      pace = record { direction = back a n 16; age = λ i. get_or (two i) 0 0; period = λ i. get_or (two i) 1 0 };
    })

-- Two axes that a row can hold are one where they have one row.
pub same_row : {a b : Axis} → Held a → Held b → row_of a ≡ row_of b → a ≡ b
same_row {a} {b} h k e = sym (comes_back a h) ∙ ap axis_of e ∙ comes_back b k
