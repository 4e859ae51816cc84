-- Runs of calls on a table: docs/RULES.md, the calls of every section.
use Rattle.std.specs.Prelude.{ℕ, ◌≡◌, cond, List, [], ◌∷◌, ◌++◌, eqb, Result, Ok, Err}
use Rattle.fields.specs.Field.{flag_of}
use Rattle.axis.specs.declared.row.Row.{Row}
use Rattle.table_rows.specs.Table.{row_at}
use Rattle.table_rows.specs.Located.{located, on_found}
use Rattle.table_port.specs.Port.{sampled_table, sampled_answer}
use Rattle.table_change.specs.Making.{ruled, table_after}
use Rattle.runs.specs.Told.{Told, marks, refused}
use Rattle.runs.specs.Op.{Op, rule_of, answer_of}
use Rattle.refusal.specs.declared.Refusal.{Refusal}
use Rattle.table_port.specs.declared.Masks.{Masks}

-- A call on a table: a port sample, or a call that names an axis.
pub data Call : Type 0 where
  port : ℕ → Call
  names : ℕ → Op → Call

-- The table after a call that names an axis.
unfoldable pub table_by : List ℕ → ℕ → Op → List ℕ
table_by t k o = table_after t k (ruled (rule_of o) t k)

-- The table after a call.
unfoldable pub table_next : List ℕ → Call → List ℕ
table_next t (port word) = sampled_table t word
table_next t (names k o) = table_by t k o

-- The table after a run of calls, oldest first.
unfoldable pub table_run : List ℕ → List Call → List ℕ
table_run t [] = t
table_run t (c ∷ cs) = table_run (table_next t c) cs

-- The bits of axis k in the three masks, none on a refusal.
unfoldable pub bits_of : ℕ → Result Masks Refusal → List Told
bits_of k (Ok m) = marks (record { double = flag_of k m.doubles; index = flag_of k m.index; broken = flag_of k m.broken }) ∷ []
bits_of k (Err e) = []

-- The answer of a call that names axis k.
unfoldable pub answer_in : List ℕ → ℕ → Op → Told
answer_in t k o = on_found refused (answer_of o) (located t k)

-- What axis k is told by a call: nothing by one that names another.
unfoldable pub heard_of : ℕ → List ℕ → Call → List Told
heard_of k t (port word) = bits_of k (sampled_answer t word)
heard_of k t (names j o) = cond (eqb j k) (answer_in t k o ∷ []) []

-- What axis k is told over a run.
unfoldable pub heard : ℕ → List ℕ → List Call → List Told
heard k t [] = []
heard k t (c ∷ cs) = heard_of k t c ++ heard k (table_next t c) cs

-- The rows of axis k after each of its own events, oldest first.
unfoldable pub rows_of : ℕ → List ℕ → Call → List Row
rows_of k t (port word) = row_at (sampled_table t word) k ∷ []
rows_of k t (names j o) = cond (eqb j k) (row_at (table_by t j o) k ∷ []) []

-- The same over a run.
unfoldable pub rows : ℕ → List ℕ → List Call → List Row
rows k t [] = []
rows k t (c ∷ cs) = rows_of k t c ++ rows k (table_next t c) cs

-- What a run says of a call that names axis k: t before, u after, and what axis k is told.
pub record Says (o : Op) (t : List ℕ) (k : ℕ) (u : List ℕ) (a : Told) : Type 0 where
  pub table : u ≡ table_next t (names k o)
  pub told : a ≡ answer_in t k o
