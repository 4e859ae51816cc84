-- Demand 3: two runs that agree on one axis.
use mathlib.Core.Path.{◌≡◌, refl, sym, ◌∙◌}
use mathlib.Core.Logic.{◌≢◌}
use mathlib.Core.List.{List, ◌∷◌}
use Prim.Native.Nat.{ℕ, ◌<◌}
use borrow.Author.Tests.{ne_eqb}
use lib.ListN.{length}
use Rattle.table_rows.specs.Table.{axes_in}
use Rattle.table_port.specs.Port.{nibble}
use Rattle.runs.specs.Op.{Op, save, looks}
use Rattle.runs.specs.Run.{Call, port, names, table_next}
use Rattle.runs.proofs.CallLaws.{next_length, other_row}
use Rattle.promises.specs.Own.{seen_look, seen, event_of, events}
use Rattle.promises.specs.Agreement.{BeginAlike, EndAlike}
use Rattle.promises.proofs.RunLaws.{alone}

-- Two runs that agree on axis k end alike for it.
pub ends_alike : {k : ℕ} {t u : List ℕ} {cs ds : List Call} → BeginAlike k t u cs ds → EndAlike k t u cs ds
ends_alike {k} {t} {u} {cs} {ds} s =
    let a = alone t k s.there cs in
    let b = alone u k (rw (← s.size) s.there) ds in
    record {
      row = a.row ∙ rw (s.row, s.events) (sym b.row);
      answers = a.answers ∙ rw (s.row, s.events) (sym b.answers);
      rows = a.rows ∙ rw (s.row, s.events) (sym b.rows);
    }

-- ---- what the agreement does not ask

module _ (t : List ℕ) (k : ℕ) (h : k < axes_in (length t)) (cs : List Call) where
  -- Calls on another axis may differ: one more before, which changes the table, and one more in the run.
  pub others_aside : (j : ℕ) (o p : Op) → k ≢ j → BeginAlike k t (table_next t (names j o)) cs (names j p ∷ cs)
  unfolding table_next events event_of
  others_aside j o p other = record {
    there = h;
    size = sym (next_length t (names j o));
    row = sym (other_row t j k o other);
    events = rw (ne_eqb j k (λ e. other (sym e)));
  }

  -- Ports may differ outside axis k's four bits.
  pub ports_aside : (v w : ℕ) → nibble v k ≡ nibble w k → BeginAlike k t t (port v ∷ cs) (port w ∷ cs)
  unfolding events event_of
  ports_aside v w e = record { there = h; size = refl; row = refl; events = rw e }

  -- Buffers may hold anything, if they have one size.
  pub buffers_aside : (b d : List ℕ) → length b ≡ length d →
      BeginAlike k t t (names k (looks (save b)) ∷ cs) (names k (looks (save d)) ∷ cs)
  unfolding events event_of seen seen_look
  buffers_aside b d e = record { there = h; size = refl; row = refl; events = rw e }
