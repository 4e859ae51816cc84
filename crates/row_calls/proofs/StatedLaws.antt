-- What docs/RULES.md states of setup, erase, preset, arm and acknowledge, computed to its end, word by word: "Calls that name one axis".
use Rattle.std.specs.Prelude.{Result, Ok, Err}
use Prim.Native.Nat.{ℕ, ◌+◌, ◌-◌, ◌*◌, ◌^◌}
use mathlib.Core.Path.{◌≡◌, refl}
use mathlib.Core.List.{List, [], ◌∷◌, map}
use lib.IntN.{pos, negsuc}
use Rattle.position.specs.Position.{in_range, word_of}
use Rattle.refusal.specs.declared.Refusal.{Refusal}
use Rattle.refusal.specs.declared.Refusal.TheVariants.{Broken, Empty, Kind, Value, Layout, Occupied}
use Rattle.axis.specs.Config.{good_config}
use Rattle.axis.specs.declared.row.Row.{Row}
use Rattle.axis_sound.specs.Sound.{status_of}
use Rattle.row_calls.specs.Answer.{done_of, changed_number, done_found}
use Rattle.row_calls.specs.Change.{changed}
use Rattle.row_calls.specs.Calls.{left_by, and_then, setup_row, erase_row, place_row, preset_row, arm_row, acknowledge_row, change_row}
use Rattle.row_calls.specs.Calls.{Setup, Erase, Preset, Arm, Acknowledge}

-- ---- the form of every law of this kind

-- What a definition gives, and what docs/RULES.md says.
pub record Stated (A : Type 0) : Type 0 where
  pub gives : A
  pub says : A

infix 10 ◌is◌
abbrev pub ◌is◌ : {A : Type 0} → A → A → Stated A
a is b = record { gives = a; says = b }

-- The two agree, line by line.
abbrev pub AsStated : {A : Type 0} → List (Stated A) → Type 0
AsStated {A} lines = map (λ (l : Stated A). l.gives) lines ≡ map (λ (l : Stated A). l.says) lines

-- Four words.
abbrev pub words : ℕ → ℕ → ℕ → ℕ → Row
words w0 w1 w2 w3 = record { w0 = w0; w1 = w1; w2 = w2; w3 = w3 }

-- The five flags, each by its bit of word 1.
abbrev pub PRIMED : ℕ
PRIMED = 2 ^ 14

abbrev pub ARMED : ℕ
ARMED = 2 ^ 15

abbrev pub HOMED : ℕ
HOMED = 2 ^ 16

abbrev pub RANGE : ℕ
RANGE = 2 ^ 17

abbrev pub INDEX : ℕ
INDEX = 2 ^ 18

-- A row of kind 2 and depth 8 that has something in every field: levels A and Z, runs 1, 2 and 7, doubles, direction 2, age 5, period 9 and
-- 4096 counts a turn.
abbrev pub busy : ℕ → ℕ → ℕ → Row
busy word flags doubles =
    let lines = 2 ^ 19 + 2 ^ 21 + 1 * 2 ^ 22 + 2 * 2 ^ 25 + 7 * 2 ^ 28 in
    words word (2 + 8 * 2 ^ 4 + flags + lines + doubles * 2 ^ 32 + 2 * 2 ^ 48) (5 + 9 * 2 ^ 32) 4096

-- A row of kind 1 and depth 1 that is not primed.
abbrev pub idle : ℕ → ℕ → Row
idle word flags = words word (1 + 1 * 2 ^ 4 + flags) 0 0

-- A counter of 8 bits.
abbrev pub counter : ℕ → Row
counter word = words word (8 + 8 * 2 ^ 8) 0 0

-- The empty row.
abbrev pub empty : Row
empty = words 0 0 0 0

-- A broken row: it is not four zero words, and word 0 holds no position.
abbrev pub broken : Row
broken = words 0 0 0 1

-- ---- the calls

-- Setup makes 2^62, the configuration and zeros of an empty row, or is VALUE there; where one bit of one word is set, or more, it is
-- OCCUPIED, whatever its numbers. Erase makes four zero words of any row, and then a setup is accepted.
pub setup_stated : AsStated (
    (change_row (Setup 4 3 0 4096) empty is Ok (words (2 ^ 62) 52 0 4096))
    ∷ (change_row (Setup 1 1 0 0) empty is Ok (words (2 ^ 62) 17 0 0))
    ∷ (change_row (Setup 2 8 0 4294967295) empty is Ok (words (2 ^ 62) 130 0 4294967295))
    ∷ (change_row (Setup 8 0 32 0) empty is Ok (words (2 ^ 62) 8200 0 0))
    ∷ (change_row (Setup 4 9 0 4096) empty is Err Value)
    ∷ (change_row (Setup 4 3 0 4096) (words 1 0 0 0) is Err Occupied)
    ∷ (change_row (Setup 4 3 0 4096) (words 0 1 0 0) is Err Occupied)
    ∷ (change_row (Setup 4 3 0 4096) (words 0 0 1 0) is Err Occupied)
    ∷ (change_row (Setup 4 3 0 4096) broken is Err Occupied)
    ∷ (change_row (Setup 2 8 0 4294967295) (counter 1) is Err Occupied)
    ∷ (change_row (Setup 8 0 32 0) (busy 7 PRIMED 300) is Err Occupied)
    ∷ (change_row (Setup 4 9 0 4096) (busy 7 PRIMED 300) is Err Occupied)
    ∷ (change_row Erase broken is Ok (words 0 0 0 0))
    ∷ (change_row Erase (busy 7 PRIMED 300) is Ok (words 0 0 0 0))
    ∷ (and_then (change_row Erase (busy 7 PRIMED 300)) (change_row (Setup 8 0 32 0)) is Ok (words (2 ^ 62) 8200 0 0))
    ∷ [])
unfolding good_config setup_row erase_row
setup_stated = refl

-- Preset sets word 0 and clears RANGE and HOMED, on a sampled row and on a counter; arm sets ARMED and clears HOMED; acknowledge sets
-- doubles to 0 and clears INDEX; every other bit stays. An empty row is EMPTY, a broken one BROKEN, and a counter KIND to arm and
-- acknowledge; a position out of its range is VALUE after these.
pub change_stated : AsStated (
    (change_row (Preset (pos 7)) (busy 9 (PRIMED + ARMED + RANGE + INDEX) 300) is Ok (busy (2 ^ 62 + 7) (PRIMED + ARMED + INDEX) 300))
    ∷ (change_row (Preset (negsuc 6)) (busy 9 (PRIMED + HOMED + RANGE + INDEX) 300) is Ok (busy (2 ^ 62 - 7) (PRIMED + INDEX) 300))
    ∷ (change_row (Preset (pos (2 ^ 62 - 1))) (idle 9 ARMED) is Ok (idle (2 ^ 63 - 1) ARMED))
    ∷ (change_row (Preset (negsuc (2 ^ 62 - 2))) (counter 9) is Ok (counter 1))
    ∷ (change_row (Preset (pos (2 ^ 62))) (counter 9) is Err Value)
    ∷ (change_row (Preset (negsuc (2 ^ 62 - 1))) (busy 9 PRIMED 0) is Err Value)
    ∷ (change_row (Preset (pos (2 ^ 62))) empty is Err Empty)
    ∷ (change_row (Preset (pos (2 ^ 62))) broken is Err Broken)
    ∷ (change_row Arm (busy 9 (PRIMED + HOMED + RANGE + INDEX) 300) is Ok (busy 9 (PRIMED + ARMED + RANGE + INDEX) 300))
    ∷ (change_row Arm (busy 9 PRIMED 300) is Ok (busy 9 (PRIMED + ARMED) 300))
    ∷ (change_row Arm (idle 9 0) is Ok (idle 9 ARMED))
    ∷ (change_row Arm empty is Err Empty)
    ∷ (change_row Arm broken is Err Broken)
    ∷ (change_row Arm (counter 9) is Err Kind)
    ∷ (change_row Acknowledge (busy 9 (PRIMED + HOMED + RANGE + INDEX) 300) is Ok (busy 9 (PRIMED + HOMED + RANGE) 0))
    ∷ (change_row Acknowledge (busy 9 (PRIMED + ARMED) 65535) is Ok (busy 9 (PRIMED + ARMED) 0))
    ∷ (change_row Acknowledge (idle 9 ARMED) is Ok (idle 9 ARMED))
    ∷ (change_row Acknowledge empty is Err Empty)
    ∷ (change_row Acknowledge broken is Err Broken)
    ∷ (change_row Acknowledge (counter 9) is Err Kind)
    ∷ [])
unfolding in_range word_of status_of changed place_row preset_row arm_row acknowledge_row
change_stated = refl

-- ---- what is answered, and what is left

-- Done is 0, a refusal its number, and LAYOUT the number found besides.
pub answer_stated : AsStated (
    (changed_number (Ok broken) is 0)
    ∷ (done_found (done_of (Ok broken)) is 0)
    ∷ (changed_number (Err Value) is 6)
    ∷ (done_found (done_of (Err Value)) is 0)
    ∷ (changed_number (Err Occupied) is 13)
    ∷ (done_found (done_of (Err Occupied)) is 0)
    ∷ (changed_number (Err (Layout 7)) is 11)
    ∷ (done_found (done_of (Err (Layout 7))) is 7)
    ∷ [])
answer_stated = refl

-- A call that makes a row leaves that one, and the next call takes it; a refused one leaves the row as it was, and its refusal stands.
pub left_stated : (r q : Row) (e : Refusal) (next : Row → Result Row Refusal) →
    (left_by r (Ok q) ≡ q) × (left_by r (Err e) ≡ r) × (and_then (Ok q) next ≡ next q) × (and_then (Err e) next ≡ Err e)
left_stated r q e next = (refl, refl, refl, refl)
