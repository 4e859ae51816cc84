-- What docs/RULES.md states of a row and of a configuration, "One row, four words" and "Calls that name one axis", computed to its end.
use Prim.Native.Nat.{ℕ, ◌+◌, ◌*◌, ◌^◌}
use mathlib.Core.Path.{◌≡◌, refl}
use mathlib.Core.Bool.{Bool, true, false}
use mathlib.Core.List.{List, [], ◌∷◌, map}
use Rattle.axis.specs.Kind.{X1, X2, X4, COUNTER}
use Rattle.axis.specs.Config.{good_config}
use Rattle.axis.specs.Flags.{with_primed, with_armed, with_homed, with_range, with_index}
use Rattle.axis.specs.Limit.{most_axes}
use Rattle.axis.specs.Row.{axis_of, row_of, waiting, fresh}
use Rattle.axis.specs.declared.config.Config.{Config}
use Rattle.axis.specs.declared.row.Axis.{Axis}
use Rattle.axis.specs.declared.row.Flags.{Flags}
use Rattle.axis.specs.declared.row.Row.{Row}

-- ---- a row

-- PRIMED, ARMED, HOMED, RANGE, INDEX.
abbrev flags : Bool → Bool → Bool → Bool → Bool → Flags
flags p a h r i = record { primed = p; armed = a; homed = h; range = r; index = i }

-- A row in which no two fields of a word hold the same number: each field of word 1 stands at its bit, age below period in word 2.
abbrev mixed_row : Row
mixed_row = record {
  w0 = 2 ^ 62 + 17;
  w1 = 9 + 11 * 2 ^ 4 + 35 * 2 ^ 8 + 2 ^ 14 + 2 ^ 16 + 2 ^ 19 + 2 ^ 21 + 5 * 2 ^ 22 + 7 * 2 ^ 25 + 6 * 2 ^ 28 + 40001 * 2 ^ 32 + 3 * 2 ^ 48;
  w2 = 3000000001 + 4000000001 * 2 ^ 32;
  w3 = 4096;
}

-- Its axis.
abbrev mixed_axis : Axis
mixed_axis = record {
  word = 4611686018427387921;
  config = record { kind = 9; depth = 11; width = 35; turn = 4096 };
  flags = flags true false true false false;
  levels = true ∷ false ∷ true ∷ [];
  runs = 5 ∷ 7 ∷ 6 ∷ [];
  doubles = 40001;
  pace = record { direction = 3; age = 3000000001; period = 4000000001 };
}

-- The row is that axis, and the axis that row.
pub row_stated : axis_of mixed_row ≡ mixed_axis × row_of mixed_axis ≡ mixed_row
row_stated = (refl, refl)

-- A row of ones has in each field as many as it has bits: kind and depth 4, width 6, a run 3, doubles 16, direction 2, age and period 32.
pub ones_stated :
    let w : ℕ = 18446744073709551615 in
    axis_of (record { w0 = w; w1 = w; w2 = w; w3 = w }) ≡ record {
      word = w;
      config = record { kind = 15; depth = 15; width = 63; turn = w };
      flags = flags true true true true true;
      levels = true ∷ true ∷ true ∷ [];
      runs = 7 ∷ 7 ∷ 7 ∷ [];
      doubles = 65535;
      pace = record { direction = 3; age = 4294967295; period = 4294967295 };
    }
ones_stated = refl

-- The five flags and the three levels of word 1.
abbrev marks_in : ℕ → List Bool
marks_in w =
    let a = axis_of (record { w0 = 0; w1 = w; w2 = 0; w3 = 0 }) in
    let f = a.flags in
    f.primed ∷ f.armed ∷ f.homed ∷ f.range ∷ f.index ∷ a.levels

-- Bits 14 to 18 are PRIMED, ARMED, HOMED, RANGE, INDEX, and bits 19, 20, 21 filtered A, B, Z: each bit alone sets its own.
pub marks_stated :
    let x = true in
    let o = false in
    map (λ (at : ℕ). marks_in (2 ^ at)) (13 ∷ 14 ∷ 15 ∷ 16 ∷ 17 ∷ 18 ∷ 19 ∷ 20 ∷ 21 ∷ 22 ∷ [])
    ≡ (o ∷ o ∷ o ∷ o ∷ o ∷ o ∷ o ∷ o ∷ [])
    ∷ (x ∷ o ∷ o ∷ o ∷ o ∷ o ∷ o ∷ o ∷ [])
    ∷ (o ∷ x ∷ o ∷ o ∷ o ∷ o ∷ o ∷ o ∷ [])
    ∷ (o ∷ o ∷ x ∷ o ∷ o ∷ o ∷ o ∷ o ∷ [])
    ∷ (o ∷ o ∷ o ∷ x ∷ o ∷ o ∷ o ∷ o ∷ [])
    ∷ (o ∷ o ∷ o ∷ o ∷ x ∷ o ∷ o ∷ o ∷ [])
    ∷ (o ∷ o ∷ o ∷ o ∷ o ∷ x ∷ o ∷ o ∷ [])
    ∷ (o ∷ o ∷ o ∷ o ∷ o ∷ o ∷ x ∷ o ∷ [])
    ∷ (o ∷ o ∷ o ∷ o ∷ o ∷ o ∷ o ∷ x ∷ [])
    ∷ (o ∷ o ∷ o ∷ o ∷ o ∷ o ∷ o ∷ o ∷ [])
    ∷ []
marks_stated = refl

-- Each flag is set and cleared alone.
pub setters_stated : (b p a h r i : Bool) →
    let f = flags p a h r i in
    with_primed b f ∷ with_armed b f ∷ with_homed b f ∷ with_range b f ∷ with_index b f ∷ []
    ≡ flags b a h r i ∷ flags p b h r i ∷ flags p a b r i ∷ flags p a h b i ∷ flags p a h r b ∷ []
setters_stated b p a h r i = refl

-- Setup of x4 at depth 3 with 4096 counts per turn is the words 2 ^ 62, 52, 0 and 4096; armed, it is bit 15 more.
pub setup_stated :
    let c : Config = record { kind = 4; depth = 3; width = 0; turn = 4096 } in
    row_of (fresh c) ≡ record { w0 = 4611686018427387904; w1 = 52; w2 = 0; w3 = 4096 }
    × row_of (waiting c 7 true) ≡ record { w0 = 7; w1 = 32820; w2 = 0; w3 = 4096 }
setup_stated = (refl, refl)

-- ---- a configuration

-- The numbers of x1, x2, x4 and the counter, and how many axes there may be.
pub numbers_stated : X1 ∷ X2 ∷ X4 ∷ COUNTER ∷ most_axes ∷ [] ≡ 1 ∷ 2 ∷ 4 ∷ 8 ∷ 16 ∷ []
unfolding most_axes
numbers_stated = refl

-- Whether each of some numbers passes.
abbrev passed : (ℕ → Bool) → List ℕ → List Bool
passed = map

-- Of the kinds 0 to 9 only 1, 2 and 4 are set up with a depth, and only 8 with a width.
pub kinds_stated :
    let x = true in
    let o = false in
    let numbers : List ℕ = 0 ∷ 1 ∷ 2 ∷ 3 ∷ 4 ∷ 5 ∷ 6 ∷ 7 ∷ 8 ∷ 9 ∷ [] in
    passed (λ kind. good_config kind 3 0 0) numbers ≡ o ∷ x ∷ x ∷ o ∷ x ∷ o ∷ o ∷ o ∷ o ∷ o ∷ []
    × passed (λ kind. good_config kind 0 3 0) numbers ≡ o ∷ o ∷ o ∷ o ∷ o ∷ o ∷ o ∷ o ∷ x ∷ o ∷ []
unfolding good_config
kinds_stated = (refl, refl)

-- A sampled axis has depth 1 to 8, width 0 and counts per turn below 2 ^ 32.
pub sampled_stated :
    let x = true in
    let o = false in
    passed (λ depth. good_config 4 depth 0 0) (0 ∷ 1 ∷ 2 ∷ 7 ∷ 8 ∷ 9 ∷ 15 ∷ []) ≡ o ∷ x ∷ x ∷ x ∷ x ∷ o ∷ o ∷ []
    × passed (λ width. good_config 4 3 width 0) (0 ∷ 1 ∷ 2 ∷ 32 ∷ []) ≡ x ∷ o ∷ o ∷ o ∷ []
    × passed (λ turn. good_config 4 3 0 turn) (0 ∷ 1 ∷ 4294967295 ∷ 4294967296 ∷ []) ≡ x ∷ x ∷ x ∷ o ∷ []
unfolding good_config
sampled_stated = (refl, refl, refl)

-- A counter has width 2 to 32, depth 0 and counts per turn 0.
pub counter_stated :
    let x = true in
    let o = false in
    passed (λ width. good_config 8 0 width 0) (0 ∷ 1 ∷ 2 ∷ 3 ∷ 31 ∷ 32 ∷ 33 ∷ 63 ∷ []) ≡ o ∷ o ∷ x ∷ x ∷ x ∷ x ∷ o ∷ o ∷ []
    × passed (λ depth. good_config 8 depth 8 0) (0 ∷ 1 ∷ 8 ∷ []) ≡ x ∷ o ∷ o ∷ []
    × passed (λ turn. good_config 8 0 8 turn) (0 ∷ 1 ∷ 4096 ∷ []) ≡ x ∷ o ∷ o ∷ []
unfolding good_config
counter_stated = (refl, refl, refl)
