-- The order in which reasons are checked, as data: docs/RULES.md, "Reasons for saying no". It does not go by their numbers.
use Rattle.std.specs.Prelude.{ℕ, suc, ◌<◌, ◌≤◌, ◌≡◌, ◌⊎◌, cond, List, [], ◌∷◌, eqb}
use Rattle.refusal.specs.Refusal.{number_of}
use Rattle.refusal.specs.declared.Refusal.{Refusal}
use Rattle.refusal.specs.declared.Refusal.TheVariants.{Length, Axis, Broken, Empty, Kind, Value}
use Rattle.refusal.specs.declared.Refusal.TheVariants.{Half, Range, NoPeriod, Room, Layout, Record, Occupied}

-- The reasons in the order in which every call but the two restores checks those that are its own; LAYOUT stands for every number found.
abbrev pub checked : List Refusal
checked =
    Length ∷ Axis ∷ Broken ∷ Empty ∷ Kind ∷ Occupied ∷ Value ∷ Half ∷ Range ∷ NoPeriod ∷ Room ∷ Layout 0 ∷ Record ∷ []

-- The order in a restore: the record's own reasons, whose order among themselves is for `Judged` of record to say, and OCCUPIED last.
abbrev pub restoring : List Refusal
restoring = Length ∷ Axis ∷ Layout 0 ∷ Record ∷ Value ∷ Occupied ∷ []

-- The order in a whole-table restore: the record's own reasons, whose order among themselves is for `TableJudged` of record_table to say,
-- then AXIS, and OCCUPIED last.
abbrev pub restoring_all : List Refusal
restoring_all = Length ∷ Layout 0 ∷ Record ∷ Value ∷ Axis ∷ Occupied ∷ []

-- The place in an order of the reason with a number: how many come before it there; one that is not in the order comes after all.
abbrev pub place_in : List Refusal → ℕ → ℕ
place_in [] n = 0
place_in (e ∷ order) n = cond (eqb n (number_of e)) 0 (suc (place_in order n))

-- The number of an answer that is done, or refused for a reason that comes in an order after e.
abbrev pub After : List Refusal → Refusal → ℕ → Type 0
After order e n = (n ≡ 0) ⊎ (place_in order (number_of e) < place_in order n)

-- The number of an answer that is refused for e, or for a reason that comes in an order before it.
abbrev pub ByThen : List Refusal → Refusal → ℕ → Type 0
ByThen order e n = place_in order n ≤ place_in order (number_of e)
