-- What a view, a reading, a speed by period and a save promise: docs/RULES.md, "Calls that name one axis".
use Rattle.std.specs.Prelude.{ℕ, ◌≤◌, ◌≡◌, List, length, take, drop, Result, Err, ℤ}
use Rattle.row_view.specs.View.{view_row}
use Rattle.row_saving.specs.Saving.{save_row, saved_in}
use Rattle.row_speed.specs.Speed.{speed_row}
use Rattle.row_counter.specs.Reading.{reading_row, read_row}
use Rattle.table_rows.specs.Located.{located, on_found}
use Rattle.table_change.specs.Making.{ruled, table_after}
use Rattle.refusal.specs.declared.Refusal.{Refusal}
use Rattle.speed.specs.declared.Quotient.{Quotient}
use Rattle.row_view.specs.declared.answer.View.{View}

-- What a view answers.
abbrev pub viewed_in : List ℕ → ℕ → Result View Refusal
viewed_in t k = on_found Err view_row (located t k)

-- What a reading answers.
abbrev pub read_in : ℕ → List ℕ → ℕ → Result ℤ Refusal
read_in x t k = on_found Err (reading_row x) (located t k)

-- What a reading promises: the position that is stored is the one answered.
pub record ReadingMakes (x : ℕ) (t : List ℕ) (k : ℕ) (u : List ℕ) (a : Result ℤ Refusal) : Type 0 where
  pub answer : a ≡ read_in x t k
  pub table : u ≡ table_after t k (ruled (read_row x) t k)

-- What a speed by period answers.
abbrev pub speed_in : ℕ → List ℕ → ℕ → Result Quotient Refusal
speed_in rate t k = on_found Err (speed_row rate) (located t k)

-- What a save answers, by the room in the buffer.
abbrev pub save_in : ℕ → List ℕ → ℕ → Result ℕ Refusal
save_in room t k = on_found Err (save_row room) (located t k)

-- What a save promises: b before, d after, and the answer; the table is only read.
pub record SaveMakes (t : List ℕ) (k : ℕ) (b d : List ℕ) (a : Result ℕ Refusal) : Type 0 where
  pub answer : a ≡ save_in (length b) t k
  pub buffer : d ≡ on_found (λ _. b) (saved_in b) (located t k)

-- What is written at the front of a buffer, b before and d after: n bytes for which there is room, and nothing beyond.
pub record Fronts (bytes b : List ℕ) (n : ℕ) (d : List ℕ) : Type 0 where
  pub size : length bytes ≡ n
  pub room : n ≤ length b
  pub front : take n d ≡ bytes
  pub beyond : drop n d ≡ drop n b
  pub whole : length d ≡ length b
