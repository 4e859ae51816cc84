-- What a call that makes another row of the named one promises: docs/RULES.md, "Calls that name one axis".
use Rattle.std.specs.Prelude.{ℕ, ◌/◌, ◌≡◌, ◌≢◌, List, length, get_or, Result, Ok, Err, ⊤}
use Rattle.axis.specs.declared.row.Row.{Row}
use Rattle.row_calls.specs.Answer.{done_of}
use Rattle.table_rows.specs.Table.{row_at, set_row}
use Rattle.table_rows.specs.Located.{located, on_found}
use Rattle.refusal.specs.declared.Refusal.{Refusal}

-- What a call makes of the named row, by its rule for one row.
abbrev pub ruled : (Row → Result Row Refusal) → List ℕ → ℕ → Result Row Refusal
ruled rule t k = on_found Err rule (located t k)

-- The table after such a call: the named row is replaced, or every word stays.
unfoldable pub table_after : List ℕ → ℕ → Result Row Refusal → List ℕ
table_after t k (Ok r) = set_row t k r
table_after t k (Err e) = t

-- What a call on axis k keeps of a table: its length, every word outside the named row, and so every other row.
pub record Spares (t : List ℕ) (k : ℕ) (u : List ℕ) : Type 0 where
  pub size : length u ≡ length t
  pub words : (i : ℕ) → i / 4 ≢ k → get_or u i 0 ≡ get_or t i 0
  pub rows : (j : ℕ) → j ≢ k → row_at u j ≡ row_at t j

-- What writing back promises, for what a call makes of row k: t before, u after, and the answer.
pub record Commits (c : Result Row Refusal) (t : List ℕ) (k : ℕ) (u : List ℕ) (a : Result ⊤ Refusal) : Type 0 where
  pub answer : a ≡ done_of c
  pub table : u ≡ table_after t k c

-- What setup, erase, preset, arm, acknowledge and restore promise, each by its rule: t before, u after, and the answer.
abbrev pub Makes : (Row → Result Row Refusal) → List ℕ → ℕ → List ℕ → Result ⊤ Refusal → Type 0
Makes rule t k u a = Commits (ruled rule t k) t k u a
