-- What docs/RULES.md states of sound rows, "One row, four words", computed to its end: each line at its limits, on rows given as words.
use Prim.Native.Nat.{ℕ, zero, suc, ◌+◌, ◌*◌, ◌^◌}
use mathlib.Core.Path.{◌≡◌, refl}
use mathlib.Core.List.{List, [], ◌∷◌, map}
use lib.ListN.{replicate}
use Rattle.axis_sound.specs.Sound.{status_of}
use Rattle.axis_sound.specs.declared.Status.{Status}
use Rattle.axis_sound.specs.declared.Status.TheVariants.{Empty, Sampled, Counter, Broken}

-- What four words are.
abbrev is : ℕ → ℕ → ℕ → ℕ → Status
is w0 w1 w2 w3 = status_of (record { w0 = w0; w1 = w1; w2 = w2; w3 = w3 })

-- The numbers from one on, so many of them.
abbrev span : ℕ → ℕ → List ℕ
span at zero = []
span at (suc n) = at ∷ span (at + 1) n

-- Word 1 of a sampled row, primed, of kind 4 and depth 3, and of one that waits; of a counter's of width 8.
abbrev primed : ℕ
primed = 16436

abbrev waits : ℕ
waits = 52

abbrev counter : ℕ
counter = 2056

-- Four zero words are empty; a word more than 0 alone is broken.
pub empty_stated :
    is 0 0 0 0 ∷ is 1 0 0 0 ∷ is 0 1 0 0 ∷ is 0 0 1 0 ∷ is 0 0 0 1 ∷ [] ≡ Empty ∷ Broken ∷ Broken ∷ Broken ∷ Broken ∷ []
unfolding status_of
empty_stated = refl

-- Word 0 of a sampled row or a counter's runs from 1 to 2 ^ 63 - 1, and word 3 is below 2 ^ 32; a counter's words 2 and 3 are 0.
pub words_stated :
    let ends : List ℕ = 0 ∷ 1 ∷ 9223372036854775807 ∷ 9223372036854775808 ∷ [] in
    map (λ w. is w primed 0 0) ends ≡ Broken ∷ Sampled ∷ Sampled ∷ Broken ∷ []
    × map (λ w. is w counter 0 0) ends ≡ Broken ∷ Counter ∷ Counter ∷ Broken ∷ []
    × map (is 7 primed 0) (4294967295 ∷ 4294967296 ∷ []) ≡ Sampled ∷ Broken ∷ []
    × is 7 counter 1 0 ∷ is 7 counter 0 1 ∷ [] ≡ Broken ∷ Broken ∷ []
unfolding status_of
words_stated = (refl, refl, refl, refl)

-- Of the kinds 0 to 15 only 1, 2 and 4 are sampled ones, with depth 1 to 8, and only 8 is a counter's, with width 2 to 32.
pub kinds_stated :
    let o = Broken in
    let s = Sampled in
    let c = Counter in
    map (λ kind. is 7 (kind + 3 * 2 ^ 4) 0 0) (span 0 16) ≡ o ∷ s ∷ s ∷ o ∷ s ∷ replicate 11 o
    × map (λ kind. is 7 (kind + 8 * 2 ^ 8) 0 0) (span 0 16) ≡ o ∷ o ∷ o ∷ o ∷ o ∷ o ∷ o ∷ o ∷ c ∷ replicate 7 o
    × map (λ depth. is 7 (4 + depth * 2 ^ 4) 0 0) (span 0 16) ≡ o ∷ s ∷ s ∷ s ∷ s ∷ s ∷ s ∷ s ∷ s ∷ replicate 7 o
    × map (λ width. is 7 (8 + width * 2 ^ 8) 0 0) (0 ∷ 1 ∷ 2 ∷ 3 ∷ 31 ∷ 32 ∷ 33 ∷ 63 ∷ []) ≡ o ∷ o ∷ c ∷ c ∷ c ∷ c ∷ o ∷ o ∷ []
    × is 7 (primed + 2 ^ 8) 0 0 ∷ is 7 (counter + 2 ^ 4) 0 0 ∷ [] ≡ o ∷ o ∷ []
unfolding status_of
kinds_stated = (refl, refl, refl, refl, refl)

-- The bits without a name, 31 and 50 to 63, break a sampled row, and any of the bits 14 to 63 breaks a counter's.
pub bits_stated :
    map (λ at. is 7 (primed + 2 ^ at) 0 0) (31 ∷ span 50 14) ≡ replicate 15 Broken
    × map (λ at. is 7 (counter + 2 ^ at) 0 0) (span 14 50) ≡ replicate 50 Broken
unfolding status_of
bits_stated = (refl, refl)

-- Each run is below the depth, here 3: 2 is sound and 3 is not, of A, of B and of Z.
pub runs_stated :
    map (λ run. is 7 (primed + run * 2 ^ 22) 0 0) (2 ∷ 3 ∷ []) ≡ Sampled ∷ Broken ∷ []
    × map (λ run. is 7 (primed + run * 2 ^ 25) 0 0) (2 ∷ 3 ∷ []) ≡ Sampled ∷ Broken ∷ []
    × map (λ run. is 7 (primed + run * 2 ^ 28) 0 0) (2 ∷ 3 ∷ []) ≡ Sampled ∷ Broken ∷ []
unfolding status_of
runs_stated = (refl, refl, refl)

-- ARMED or HOMED alone are sound, both are not; so is RANGE; INDEX needs counts per turn.
pub flags_stated :
    map (λ flags. is 7 (primed + flags) 0 0) (2 ^ 15 ∷ 2 ^ 16 ∷ (2 ^ 15 + 2 ^ 16) ∷ 2 ^ 17 ∷ []) ≡ Sampled ∷ Sampled ∷ Broken ∷ Sampled ∷ []
    × map (is 7 (primed + 2 ^ 18) 0) (0 ∷ 1 ∷ []) ≡ Broken ∷ Sampled ∷ []
unfolding status_of
flags_stated = (refl, refl)

-- Direction is not 3; period is at most 2 ^ 32 - 2, and 0 where direction is 0; age is any number.
pub pace_stated :
    map (λ direction. is 7 (primed + direction * 2 ^ 48) 0 0) (0 ∷ 1 ∷ 2 ∷ 3 ∷ []) ≡ Sampled ∷ Sampled ∷ Sampled ∷ Broken ∷ []
    × map (λ period. is 7 (primed + 2 ^ 48) (period * 2 ^ 32) 0) (4294967294 ∷ 4294967295 ∷ []) ≡ Sampled ∷ Broken ∷ []
    × map (λ w2. is 7 primed w2 0) (4294967295 ∷ 2 ^ 32 ∷ []) ≡ Sampled ∷ Broken ∷ []
unfolding status_of
pace_stated = (refl, refl, refl)

-- Where PRIMED is 0 only ARMED may be set: not HOMED, RANGE, INDEX, a level, a run, doubles, direction, age or period.
pub waiting_stated :
    map (λ at. is 7 (waits + 2 ^ at) 0 1) (14 ∷ 15 ∷ []) ≡ Sampled ∷ Sampled ∷ []
    × map (λ at. is 7 (waits + 2 ^ at) 0 1) (span 16 48) ≡ replicate 48 Broken
    × map (λ w2. is 7 waits w2 1) (0 ∷ 1 ∷ 2 ^ 32 ∷ []) ≡ Sampled ∷ Broken ∷ Broken ∷ []
unfolding status_of
waiting_stated = (refl, refl, refl)
