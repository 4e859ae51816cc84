-- What docs/RULES.md states of samples on an axis, "A port sample", computed to its end: the words of the row and the bits of the answer
-- after each sample's four bits.
use Prim.Native.Nat.{ℕ, ◌+◌, ◌*◌, ◌-◌, ◌^◌}
use mathlib.Core.Path.{◌≡◌, refl}
use mathlib.Core.Bool.{Bool, true, false}
use mathlib.Core.List.{List, [], ◌∷◌}
use Rattle.position.specs.Position.{position_of}
use Rattle.axis.specs.Row.{axis_of, row_of}
use Rattle.axis.specs.declared.row.Axis.{Axis}
use Rattle.axis.specs.declared.row.Row.{Row}
use Rattle.axis_filter.specs.Lines.{raw_of, level_of}
use Rattle.axis_filter.specs.Filter.{filter_line}
use Rattle.axis_decode.specs.Decode.{x1, x2, x4, table_of, entry, is_e}
use Rattle.axis_count.specs.Count.{counted_word, counted_range, counted_doubles}
use Rattle.axis_pace.specs.Pace.{older, paced_direction, paced_age, step_period, paced_period}
use Rattle.axis_index.specs.Index.{edge_by, off_turn}
use Rattle.axis_settle.specs.Lines.{place_of, line, filtered, move_to, edge_to}
use Rattle.axis_settle.specs.Settle.{at_edge, with_entry, settle}
use Rattle.axis_sample.specs.Step.{primed_by, outcome, step_axis}

-- Four words.
abbrev words : ℕ → ℕ → ℕ → ℕ → Row
words w0 w1 w2 w3 = record { w0 = w0; w1 = w1; w2 = w2; w3 = w3 }

-- The row after each of some samples, and whether it was a double step and a reference edge.
abbrev ran : Axis → List ℕ → List (Row × Bool × Bool)
ran x [] = []
ran x (nibble ∷ rest) =
    let t = step_axis x (raw_of nibble) in
    (row_of t.axis, t.double, t.index) ∷ ran t.axis rest

-- x4 at depth 1 and 4 counts per turn, armed, from setup on: priming takes Z at 1 and counts nothing; Z falls with no step, which does
-- nothing; the fourth bit is not read; 0, 1, 3 counts forward with a period of 2; Z rises and falls with no step; it rises on 3 to 2, which
-- homes; its fall on +, 2 to 0, and its rise on -, 0 to 2, do nothing; its fall on -, 2 to 3, checks position 0 and then counts back; 3 to
-- 1 is back; 1 to 2 with a rise of Z is E and nothing else; its fall on 2 to 3 finds position -2 to be no whole turn.
pub samples_stated :
    let o = 2 ^ 62 in
    let w = 4 + 2 ^ 4 + 2 ^ 14 in
    ran (axis_of (words o (4 + 2 ^ 4 + 2 ^ 15) 0 4))
    (12 ∷ 0 ∷ 1 ∷ 9 ∷ 3 ∷ 7 ∷ 3 ∷ 6 ∷ 0 ∷ 6 ∷ 3 ∷ 1 ∷ 6 ∷ 3 ∷ [])
    ≡ (words o (w + 2 ^ 15 + 2 ^ 21) 0 4, false, false)
    ∷ (words o (w + 2 ^ 15) 1 4, false, false)
    ∷ (words (o + 1) (w + 2 ^ 15 + 2 ^ 19 + 2 ^ 48) 0 4, false, false)
    ∷ (words (o + 1) (w + 2 ^ 15 + 2 ^ 19 + 2 ^ 48) 1 4, false, false)
    ∷ (words (o + 2) (w + 2 ^ 15 + 2 ^ 19 + 2 ^ 20 + 2 ^ 48) (2 * 2 ^ 32) 4, false, false)
    ∷ (words (o + 2) (w + 2 ^ 15 + 2 ^ 19 + 2 ^ 20 + 2 ^ 21 + 2 ^ 48) (1 + 2 * 2 ^ 32) 4, false, false)
    ∷ (words (o + 2) (w + 2 ^ 15 + 2 ^ 19 + 2 ^ 20 + 2 ^ 48) (2 + 2 * 2 ^ 32) 4, false, false)
    ∷ (words o (w + 2 ^ 16 + 2 ^ 20 + 2 ^ 21 + 2 ^ 48) (3 * 2 ^ 32) 4, false, true)
    ∷ (words (o + 1) (w + 2 ^ 16 + 2 ^ 48) (2 ^ 32) 4, false, false)
    ∷ (words o (w + 2 ^ 16 + 2 ^ 20 + 2 ^ 21 + 2 * 2 ^ 48) 0 4, false, false)
    ∷ (words (o - 1) (w + 2 ^ 16 + 2 ^ 19 + 2 ^ 20 + 2 * 2 ^ 48) (2 ^ 32) 4, false, true)
    ∷ (words (o - 2) (w + 2 ^ 16 + 2 ^ 19 + 2 * 2 ^ 48) (2 ^ 32) 4, false, false)
    ∷ (words (o - 2) (w + 2 ^ 16 + 2 ^ 20 + 2 ^ 21 + 2 ^ 32) 0 4, true, false)
    ∷ (words (o - 3) (w + 2 ^ 16 + 2 ^ 18 + 2 ^ 19 + 2 ^ 20 + 2 ^ 32 + 2 * 2 ^ 48) 0 4, false, true)
    ∷ []
unfolding step_axis outcome primed_by settle at_edge with_entry filtered line place_of level_of filter_line move_to edge_to edge_by
    entry table_of x1 x2 x4 is_e counted_word counted_range counted_doubles
    older paced_direction paced_age step_period paced_period off_turn position_of
samples_stated = refl

-- Homed with 4 counts per turn, the check is of the position after the count where the edge is met forward, and before it where it is met
-- backward: at 0 and 3 forward, and at 0 and 1 backward.
pub checks_stated :
    let o = 2 ^ 62 in
    let w = 4 + 2 ^ 4 + 2 ^ 14 + 2 ^ 16 in
    ran (axis_of (words o w 0 4)) (5 ∷ []) ≡ (words (o + 1) (w + 2 ^ 18 + 2 ^ 19 + 2 ^ 21 + 2 ^ 48) 0 4, false, true) ∷ []
    × ran (axis_of (words (o + 3) w 0 4)) (5 ∷ []) ≡ (words (o + 4) (w + 2 ^ 19 + 2 ^ 21 + 2 ^ 48) 0 4, false, true) ∷ []
    × ran (axis_of (words o (w + 2 ^ 19 + 2 ^ 21) 0 4)) (0 ∷ []) ≡ (words (o - 1) (w + 2 * 2 ^ 48) 0 4, false, true) ∷ []
    × ran (axis_of (words (o + 1) (w + 2 ^ 19 + 2 ^ 21) 0 4)) (0 ∷ []) ≡ (words o (w + 2 ^ 18 + 2 * 2 ^ 48) 0 4, false, true) ∷ []
unfolding step_axis outcome primed_by settle at_edge with_entry filtered line place_of level_of filter_line move_to edge_to edge_by
    entry table_of x1 x2 x4 is_e counted_word counted_range counted_doubles
    older paced_direction paced_age step_period paced_period off_turn position_of
checks_stated = (refl, refl, refl, refl)

-- The same after one sample on a row with no counts per turn, from its first two words.
abbrev once : ℕ → ℕ → ℕ → List (Row × Bool × Bool)
once w0 w1 nibble = ran (axis_of (words w0 w1 0 0)) (nibble ∷ [])

-- Armed, a homing forward ends at 0 with RANGE clear, also where its step is held; one backward clears RANGE and then counts its own step,
-- -1 in x4, 0 or -1 in x2; x4's entry chooses the edge where x1 counts nothing; E homes nothing.
pub homing_stated :
    let o = 2 ^ 62 in
    let w = 4 + 2 ^ 4 + 2 ^ 14 in
    once 9223372036854775807 (w + 2 ^ 15) 5 ≡ (words o (w + 2 ^ 16 + 2 ^ 19 + 2 ^ 21 + 2 ^ 48) 0 0, false, true) ∷ []
    × once 1 (w + 2 ^ 15 + 2 ^ 17 + 2 ^ 19 + 2 ^ 20 + 2 ^ 21) 1 ≡ (words (o - 1) (w + 2 ^ 16 + 2 ^ 19 + 2 * 2 ^ 48) 0 0, false, true) ∷ []
    × once (o + 7) (w - 2 + 2 ^ 15 + 2 ^ 19 + 2 ^ 20 + 2 ^ 21) 1 ≡ (words o (w - 2 + 2 ^ 16 + 2 ^ 19) 1 0, false, true) ∷ []
    × once (o + 7) (w - 2 + 2 ^ 15 + 2 ^ 19 + 2 ^ 21) 0 ≡ (words (o - 1) (w - 2 + 2 ^ 16 + 2 * 2 ^ 48) 0 0, false, true) ∷ []
    × once (o + 7) (w - 3 + 2 ^ 15 + 2 ^ 19) 7 ≡ (words o (w - 3 + 2 ^ 16 + 2 ^ 19 + 2 ^ 20 + 2 ^ 21) 1 0, false, true) ∷ []
    × once (o + 7) (w + 2 ^ 15) 7 ≡ (words (o + 7) (w + 2 ^ 15 + 2 ^ 19 + 2 ^ 20 + 2 ^ 21 + 2 ^ 32) 0 0, true, false) ∷ []
unfolding step_axis outcome primed_by settle at_edge with_entry filtered line place_of level_of filter_line move_to edge_to edge_by
    entry table_of x1 x2 x4 is_e counted_word counted_range counted_doubles
    older paced_direction paced_age step_period paced_period off_turn position_of
homing_stated = (refl, refl, refl, refl, refl, refl)

-- x2 at depth 2: each line's first sample of the other level makes a run of 1; A's and B's second flips both, which is E, and Z's own level
-- ends its run; 3 to 1 counts nothing, and 1 to 0 is back.
pub depth_stated :
    let o = 2 ^ 62 in
    let w = 2 + 2 * 2 ^ 4 + 2 ^ 14 in
    ran (axis_of (words o w 0 0)) (7 ∷ 3 ∷ 1 ∷ 1 ∷ 0 ∷ 0 ∷ [])
    ≡ (words o (w + 2 ^ 22 + 2 ^ 25 + 2 ^ 28) 1 0, false, false)
    ∷ (words o (w + 2 ^ 19 + 2 ^ 20 + 2 ^ 32) 0 0, true, false)
    ∷ (words o (w + 2 ^ 19 + 2 ^ 20 + 2 ^ 25 + 2 ^ 32) 1 0, false, false)
    ∷ (words o (w + 2 ^ 19 + 2 ^ 32) 2 0, false, false)
    ∷ (words o (w + 2 ^ 19 + 2 ^ 22 + 2 ^ 32) 3 0, false, false)
    ∷ (words 4611686018427387903 (w + 2 ^ 32 + 2 * 2 ^ 48) 0 0, false, false)
    ∷ []
unfolding step_axis outcome primed_by settle at_edge with_entry filtered line place_of level_of filter_line move_to edge_to edge_by
    entry table_of x1 x2 x4 is_e counted_word counted_range counted_doubles
    older paced_direction paced_age step_period paced_period off_turn position_of
depth_stated = refl

-- At 2 ^ 62 - 1 a step forward is held and sets RANGE, which the step back leaves set; so at -(2 ^ 62 - 1) the other way. Doubles stop at
-- 65,535, and the bit of the answer does not.
pub ends_stated :
    let w = 4 + 2 ^ 4 + 2 ^ 14 in
    ran (axis_of (words 9223372036854775807 w 0 0)) (1 ∷ 0 ∷ [])
    ≡ (words 9223372036854775807 (w + 2 ^ 17 + 2 ^ 19 + 2 ^ 48) 0 0, false, false)
    ∷ (words 9223372036854775806 (w + 2 ^ 17 + 2 * 2 ^ 48) 0 0, false, false)
    ∷ []
    × ran (axis_of (words 1 w 0 0)) (2 ∷ 0 ∷ [])
    ≡ (words 1 (w + 2 ^ 17 + 2 ^ 20 + 2 * 2 ^ 48) 0 0, false, false)
    ∷ (words 2 (w + 2 ^ 17 + 2 ^ 48) 0 0, false, false)
    ∷ []
    × ran (axis_of (words 7 (w + 65534 * 2 ^ 32) 0 0)) (3 ∷ 0 ∷ [])
    ≡ (words 7 (w + 2 ^ 19 + 2 ^ 20 + 65535 * 2 ^ 32) 0 0, true, false)
    ∷ (words 7 (w + 65535 * 2 ^ 32) 0 0, true, false)
    ∷ []
unfolding step_axis outcome primed_by settle at_edge with_entry filtered line place_of level_of filter_line move_to edge_to edge_by
    entry table_of x1 x2 x4 is_e counted_word counted_range counted_doubles
    older paced_direction paced_age step_period paced_period off_turn position_of
ends_stated = (refl, refl, refl)
