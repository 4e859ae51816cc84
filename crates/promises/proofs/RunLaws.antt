-- One call, and a run of calls, as one axis has them: its row after them and all that it is told follow from its row before and its own
-- events.
use Rattle.std.specs.Prelude.{Result, Ok, Err}
use mathlib.Core.Path.{◌≡◌, refl, sym, ap, ◌∙◌}
use mathlib.Core.Bool.{Bool, true, false, cond}
use mathlib.Core.List.{List, [], ◌∷◌, ◌++◌}
use Prim.Native.Nat.{ℕ, ◌<◌}
use native.Mathlib.Omega.{arith}
use borrow.Author.Tests.{eqb-true, eqb-false}
use lib.Dec.{eqb}
use lib.ListN.{length, replicate, length-replicate}
use Rattle.axis.specs.declared.row.Row.{Row}
use Rattle.row_sample.specs.Sample.{step_row}
use Rattle.table_rows.specs.Table.{axes_in, row_at}
use Rattle.table_port.specs.Port.{nibble, sampled_answer}
use Rattle.table_port.proofs.PortLaws.{sample_row, sample_bits, sample_refused}
use Rattle.runs.specs.Told.{Told, marks, marks_of}
use Rattle.runs.specs.Op.{Look, Op, view, speed, save, changes, restore, reading, looks, look_row, rule_of, answer_of, row_after}
use Rattle.runs.specs.Event.{Event, asked, row_next, told_of}
use Rattle.runs.specs.Run.{Call, port, names, table_by, table_next, table_run, bits_of, answer_in, heard_of, heard, rows_of, rows}
use Rattle.runs.proofs.CallLaws.{next_length, other_row, named_row, named_answer}
use Rattle.promises.specs.Own.{seen_look, seen, event_of, events, row_run, tolds, rows_from}
use Rattle.promises.proofs.SaveBytes.{save_alike}
use Rattle.refusal.specs.declared.Refusal.{Refusal}
use Rattle.table_port.specs.declared.Masks.{Masks}

-- ---- what an axis sees of a call is all that matters to it

seen_row : (r : Row) (o : Op) → row_after r (seen o) ≡ row_after r o
unfolding row_after rule_of seen
seen_row r (changes c) = refl
seen_row r (restore bytes) = refl
seen_row r (reading x) = refl
seen_row r (looks l) = refl

seen_look_lem : (r : Row) (l : Look) → look_row (seen_look l) r ≡ look_row l r
unfolding look_row seen_look
seen_look_lem r view = refl
seen_look_lem r (speed rate) = refl
seen_look_lem r (save buffer) = save_alike r (replicate (length buffer) 0) buffer (length-replicate (length buffer) 0)

seen_answer : (r : Row) (o : Op) → answer_of (seen o) r ≡ answer_of o r
unfolding answer_of seen
seen_answer r (changes c) = refl
seen_answer r (restore bytes) = refl
seen_answer r (reading x) = refl
seen_answer r (looks l) = seen_look_lem r l

-- ---- one call

module _ (t : List ℕ) (k : ℕ) (h : k < axes_in (length t)) where
  -- row k after a call is row k before it, after k's own part of the call
  row_next_lem : (c : Call) → row_at (table_next t c) k ≡ row_run (row_at t k) (event_of k c)
  unfolding table_next row_run row_next event_of
  row_next_lem (port word) = sample_row t word k h
  row_next_lem (names j o) = go (eqb j k) refl
    where
      go : (b : Bool) → eqb j k ≡ b → row_at (table_by t j o) k ≡ row_run (row_at t k) (cond b (asked (seen o) ∷ []) [])
      go true e = rw (eqb-true j k e) (named_row t k h o ∙ sym (seen_row (row_at t k) o))
      go false e = other_row t j k o (λ q. eqb-false j k e (sym q))

  -- what axis k is told by a call is what its row alone is told by k's own part
  sample_heard : (word : ℕ) (a : Result Masks Refusal) → sampled_answer t word ≡ a →
      bits_of k a ≡ marks (marks_of (step_row (row_at t k) (nibble word k))) ∷ []
  unfolding bits_of
  sample_heard word (Ok m) e =
      let b = sample_bits t word k h m e in
      rw (b.doubles, b.index, b.broken)
  sample_heard word (Err e) q = absurd (omega (arith, ((sample_refused t word e).0 q).0))

  heard_next : (c : Call) → heard_of k t c ≡ tolds (row_at t k) (event_of k c)
  unfolding heard_of event_of tolds told_of
  heard_next (port word) = sample_heard word (sampled_answer t word) refl
  heard_next (names j o) = go (eqb j k)
    where
      go : (b : Bool) → cond b (answer_in t k o ∷ []) [] ≡ tolds (row_at t k) (cond b (asked (seen o) ∷ []) [])
      go true = ap (λ (a : Told). a ∷ []) (named_answer t k h o ∙ sym (seen_answer (row_at t k) o))
      go false = refl

  rows_next : (c : Call) → rows_of k t c ≡ rows_from (row_at t k) (event_of k c)
  unfolding rows_of event_of rows_from row_next
  rows_next (port word) = ap (λ (s : Row). s ∷ []) (sample_row t word k h)
  rows_next (names j o) = go (eqb j k) refl
    where
      go : (b : Bool) → eqb j k ≡ b → cond b (row_at (table_by t j o) k ∷ []) [] ≡ rows_from (row_at t k) (cond b (asked (seen o) ∷ []) [])
      go true e = rw (eqb-true j k e) (ap (λ (s : Row). s ∷ []) (named_row t k h o ∙ sym (seen_row (row_at t k) o)))
      go false e = refl

-- ---- a run

run_append : (r : Row) (es fs : List Event) → row_run r (es ++ fs) ≡ row_run (row_run r es) fs
unfolding row_run
run_append r [] fs = refl
run_append r (e ∷ es) fs = run_append (row_next r e) es fs

tolds_append : (r : Row) (es fs : List Event) → tolds r (es ++ fs) ≡ tolds r es ++ tolds (row_run r es) fs
unfolding tolds row_run
tolds_append r [] fs = refl
tolds_append r (e ∷ es) fs = ap (λ (l : List Told). told_of r e ∷ l) (tolds_append (row_next r e) es fs)

rows_append : (r : Row) (es fs : List Event) → rows_from r (es ++ fs) ≡ rows_from r es ++ rows_from (row_run r es) fs
unfolding rows_from row_run
rows_append r [] fs = refl
rows_append r (e ∷ es) fs = ap (λ (l : List Row). row_next r e ∷ l) (rows_append (row_next r e) es fs)

-- what a run gives axis k
pub record Alone (t : List ℕ) (k : ℕ) (cs : List Call) : Type 0 where
  pub row : row_at (table_run t cs) k ≡ row_run (row_at t k) (events k cs)
  pub answers : heard k t cs ≡ tolds (row_at t k) (events k cs)
  pub rows : rows k t cs ≡ rows_from (row_at t k) (events k cs)

-- Row k of a run, all that axis k is told and the row after each of its own events are those of row k alone over k's own events.
pub alone : (t : List ℕ) (k : ℕ) → k < axes_in (length t) → (cs : List Call) → Alone t k cs
unfolding table_run heard rows events row_run tolds rows_from
alone t k h [] = record { row = refl; answers = refl; rows = refl }
alone t k h (c ∷ cs) =
    let i = alone (table_next t c) k (rw (next_length t c) h) cs in
    let n = row_next_lem t k h c in
    record {
      row = i.row ∙ rw (n, run_append (row_at t k) (event_of k c) (events k cs));
      answers = rw (i.answers, heard_next t k h c, n, tolds_append (row_at t k) (event_of k c) (events k cs));
      rows = rw (i.rows, rows_next t k h c, n, rows_append (row_at t k) (event_of k c) (events k cs));
    }
