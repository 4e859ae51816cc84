-- One call of a run, for all calls at once: which table it leaves, and what it makes of the named row and tells.
use Rattle.std.specs.Prelude.{Result, Ok, Err, ℤ}
use Prim.Native.Nat.{ℕ, ◌*◌, ◌<◌}
use native.Mathlib.Omega.{arith}
use mathlib.Core.Path.{◌≡◌, refl, sym, ap, ◌∙◌}
use mathlib.Core.Logic.{◌≢◌}
use mathlib.Core.Bool.{Bool, true, false}
use mathlib.Core.List.{List, [], ◌∷◌}
use borrow.Author.Tests.{eq-eqb, eqb-true, eqb-false}
use lib.Dec.{eqb}
use lib.ListN.{length}
use Rattle.refusal.specs.declared.Refusal.{Refusal}
use Rattle.axis.specs.declared.row.Row.{Row}
use Rattle.row_calls.specs.Answer.{done_of}
use Rattle.row_calls.specs.Calls.{left_by, change_row}
use Rattle.row_saving.specs.Saving.{restore_row}
use Rattle.row_counter.specs.Reading.{reading_row, stored_row, read_row}
use Rattle.table_rows.specs.Table.{axes_in, row_at, set_row}
use Rattle.table_rows.specs.Located.{located, on_found}
use Rattle.table_rows.proofs.RowsLaws.{axes_fit, axes_only, length_set_row, row_same, row_other, table_ext}
use Rattle.table_rows.proofs.LocatedLaws.{found_at, found}
use Rattle.table_port.proofs.PortLaws.{sample_length}
use Rattle.table_change.specs.Making.{ruled, table_after}
use Rattle.table_change.proofs.MakingLaws.{makes_spares}
use Rattle.runs.specs.Told.{refused, told_done, told_number}
use Rattle.runs.specs.Op.{Look, Op, changes, restore, reading, looks, rule_of, answer_of, row_after, RefusedFor}
use Rattle.runs.specs.Run.{Call, port, names, table_by, table_next, table_run, answer_in, heard_of}

-- ---- the row

-- What refuses leaves the row.
undone_stays : (r : Row) (c : Result Row Refusal) (e : Refusal) → told_done (done_of c) ≡ refused e → left_by r c ≡ r
undone_stays r (Err x) e q = refl
undone_stays r (Ok s) e q = absurd (let z : ◌≡◌ {A = ℕ} 0 1 = cc in omega arith)

unread_stays : (r : Row) (a : Result ℤ Refusal) (e : Refusal) → told_number a ≡ refused e → left_by r (stored_row r a) ≡ r
unfolding stored_row
unread_stays r (Err x) e q = refl
unread_stays r (Ok z) e q = absurd (let z : ◌≡◌ {A = ℕ} 0 1 = cc in omega arith)

-- A call that is refused changes nothing.
pub refused_after : (r : Row) (o : Op) (e : Refusal) → RefusedFor r o e → row_after r o ≡ r
unfolding row_after rule_of answer_of read_row
refused_after r (changes c) e q = undone_stays r (change_row c r) e q
refused_after r (restore bytes) e q = undone_stays r (restore_row bytes r) e q
refused_after r (reading x) e q = unread_stays r (reading_row x r) e q
refused_after r (looks l) e q = refl

-- ---- the table

-- A table is as long after a call as before it.
pub next_length : (t : List ℕ) (c : Call) → length (table_next t c) ≡ length t
unfolding table_next table_by
next_length t (port word) = sample_length t word
next_length t (names k o) = (makes_spares (rule_of o) {t = t} {k = k} (record { answer = refl; table = refl })).size

-- So is it after a run.
pub run_length : (t : List ℕ) (cs : List Call) → length (table_run t cs) ≡ length t
unfolding table_run
run_length t [] = refl
run_length t (c ∷ cs) = run_length (table_next t c) cs ∙ next_length t c

-- A call leaves every row that it does not name.
pub other_row : (t : List ℕ) (j k : ℕ) (o : Op) → k ≢ j → row_at (table_by t j o) k ≡ row_at t k
unfolding table_by
other_row t j k o h = (makes_spares (rule_of o) {t = t} {k = j} (record { answer = refl; table = refl })).rows k h

module _ (t : List ℕ) (k : ℕ) (h : k < axes_in (length t)) where
  -- the rule of a call is asked of the named row
  pub ruled_is : (rule : Row → Result Row Refusal) → ruled rule t k ≡ rule (row_at t k)
  ruled_is rule = rw (← (found_at t k h))

  pub by_rule : (rule : Row → Result Row Refusal) → row_at (table_after t k (ruled rule t k)) k ≡ left_by (row_at t k) (rule (row_at t k))
  unfolding table_after
  by_rule rule = rw (ruled_is rule) (go (rule (row_at t k)))
    where
      go : (c : Result Row Refusal) → row_at (table_after t k c) k ≡ left_by (row_at t k) c
      go (Err e) = refl
      go (Ok s) = row_same t k s (omega (arith, axes_fit (length t)))

  -- The named row after a call.
  pub named_row : (o : Op) → row_at (table_by t k o) k ≡ row_after (row_at t k) o
  unfolding table_by row_after
  named_row o = by_rule (rule_of o)

  -- What it tells.
  pub named_answer : (o : Op) → answer_in t k o ≡ answer_of o (row_at t k)
  unfolding answer_in
  named_answer o = rw (← (found_at t k h))

  -- A row put back in its place.
  put_back : set_row t k (row_at t k) ≡ t
  put_back =
      let size : length t ≡ axes_in (length t) * 4 = axes_only (length t) (omega arith) in
      table_ext _ t (axes_in (length t)) (length_set_row t k (row_at t k) ∙ size) size (λ j _. go j (eqb j k) refl)
    where
      go : (j : ℕ) (b : Bool) → eqb j k ≡ b → row_at (set_row t k (row_at t k)) j ≡ row_at t j
      go j true e = rw (eqb-true j k e) (row_same t k (row_at t k) (omega (arith, axes_fit (length t))))
      go j false e = row_other t k j (row_at t k) (eqb-false j k e)

-- The answer of a call that names axis k is what axis k hears of it.
pub heard_named : (t : List ℕ) (k : ℕ) (o : Op) → heard_of k t (names k o) ≡ answer_in t k o ∷ []
unfolding heard_of
heard_named t k o = rw (eq-eqb k k refl)

-- A call that only looks leaves the table.
pub look_keeps : (t : List ℕ) (k : ℕ) (l : Look) → table_by t k (looks l) ≡ t
unfolding table_by table_after rule_of
look_keeps t k l = go (located t k) refl
  where
    go : (p : Result Row Refusal) → located t k ≡ p → table_after t k (on_found Err (rule_of (looks l)) p) ≡ t
    go (Err e) q = refl
    go (Ok r) q = let f = found t k r q in ap (set_row t k) (sym f.1) ∙ put_back t k f.0
