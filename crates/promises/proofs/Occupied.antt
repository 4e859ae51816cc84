-- No setup over a live axis: what is refused on a row that is not empty, how a row is freed, and that a count survives.
use Rattle.std.specs.Prelude.{Result, Ok, Err, ⊤}
use Prim.Native.Nat.{ℕ, ◌<◌}
use mathlib.Core.Path.{◌≡◌, refl, sym, ap, ◌∙◌}
use mathlib.Core.Logic.{◌≢◌}
use mathlib.Core.Bool.{true, true≢false}
use mathlib.Core.List.{List, [], ◌∷◌}
use lib.ListN.{length}
use Rattle.refusal.specs.declared.Refusal.{Refusal}
use Rattle.axis.specs.Config.{good_config}
use Rattle.axis.specs.Row.{row_of, empty_row, fresh}
use Rattle.axis.specs.declared.row.Row.{Row}
use Rattle.axis_sound.specs.Sound.{status_of}
use Rattle.axis_sound.specs.declared.Status.TheVariants.{Empty}
use Rattle.row_calls.specs.Calls.{config_of, setup_row, erase_row}
use Rattle.row_calls.specs.Calls.{Setup, Erase, Preset, Arm, Acknowledge}
use Rattle.row_calls.proofs.SetupLaws.{setup_full, setup_done, erase_makes}
use Rattle.row_saving.proofs.SaveLaws.{restore_full}
use Rattle.table_rows.specs.Table.{axes_in, row_at, AllWords}
use Rattle.table_rows.specs.Located.{located, on_found}
use Rattle.table_rows.proofs.LocatedLaws.{found}
use Rattle.table_change.specs.Making.{ruled, table_after, Makes}
use Rattle.table_change.proofs.MakingLaws.{makes_spares, makes_done}
use Rattle.runs.specs.Op.{Op, changes, restore, reading, looks, rule_of}
use Rattle.runs.specs.Event.{asked, row_since}
use Rattle.runs.specs.Run.{Call, port, names, table_by, table_next, table_run}
use Rattle.runs.proofs.CallLaws.{look_keeps}
use Rattle.history.specs.Lasting.{Unerased, unheeded, heeded}
use Rattle.history.proofs.LastingLaws.{heeded_alone}
use Rattle.promises.specs.Own.{own}
use Rattle.promises.specs.Occupied.{OnFull}
use Rattle.promises.proofs.CountIsRight.{first_words, row_is}

-- ---- what is refused

module _ (t : List ℕ) (k : ℕ) where
  -- A call whose rule leaves the named row leaves the table.
  kept_by : (rule : Row → Result Row Refusal) (e : Refusal) → rule (row_at t k) ≡ Err e → table_after t k (ruled rule t k) ≡ t
  unfolding table_after
  kept_by rule e q = go (located t k) refl
    where
      go : (l : Result Row Refusal) → located t k ≡ l → table_after t k (on_found Err rule l) ≡ t
      go (Err f) p = refl
      go (Ok r) p = ap (table_after t k) (ap rule (sym (found t k r p).1) ∙ q)

  -- A setup, a restore or a look of a row that is not empty leaves every word of the table.
  full_table : (o : Op) → unheeded (asked o) ≡ true → status_of (row_at t k) ≢ Empty → table_by t k o ≡ t
  unfolding unheeded table_by rule_of
  full_table (changes (Setup kind depth width turn)) q full = kept_by _ _ (setup_full kind depth width turn (row_at t k) full)
  full_table (changes Erase) q full = absurd (true≢false (sym q))
  full_table (changes (Preset p)) q full = absurd (true≢false (sym q))
  full_table (changes Arm) q full = absurd (true≢false (sym q))
  full_table (changes Acknowledge) q full = absurd (true≢false (sym q))
  full_table (restore bytes) q full = kept_by _ _ (restore_full bytes (row_at t k) full)
  full_table (reading x) q full = absurd (true≢false (sym q))
  full_table (looks l) q full = look_keeps t k l

-- So does any number of them.
pub keeps_all : (t : List ℕ) (cs : List Call) → OnFull t cs → table_run t cs ≡ t
unfolding table_run table_next
keeps_all t [] on = refl
keeps_all t (port word ∷ cs) on = absurd on
keeps_all t (names k o ∷ cs) on =
    ap (λ (u : List ℕ). table_run u cs) (full_table t k o on.0 on.1) ∙ keeps_all t cs on.2

-- ---- how a row is freed

-- An erase is done on any row, and leaves it empty.
pub erase_frees : (t : List ℕ) (k : ℕ) {u : List ℕ} {a : Result ⊤ Refusal} → k < axes_in (length t) → Makes erase_row t k u a →
    (a ≡ Ok tt) × (k < axes_in (length u)) × (status_of (row_at u k) ≡ Empty)
erase_frees t k there w =
    let m = erase_makes (row_at t k) in
    let d = makes_done erase_row empty_row there m.0 w in
    (d.0, rw (makes_spares erase_row w).size there, ap status_of d.1 ∙ m.1.status)

-- So any row, a live and a broken one too, can be erased and then set up.
pub frees : (t : List ℕ) (k kind depth width turn : ℕ) {u v : List ℕ} {a b : Result ⊤ Refusal} → k < axes_in (length t) →
    good_config kind depth width turn ≡ true → Makes erase_row t k u a → Makes (setup_row kind depth width turn) u k v b →
    (a ≡ Ok tt) × (b ≡ Ok tt) × (row_at v k ≡ row_of (fresh (config_of kind depth width turn)))
frees t k kind depth width turn {u} there good erases sets =
    let e = erase_frees t k there erases in
    let s = makes_done (setup_row kind depth width turn) _ e.1 (setup_done kind depth width turn (row_at u k) e.2 good) sets in
    (e.0, s.0, s.1)

-- ---- that a count survives

module _ (t : List ℕ) (k : ℕ) (words : AllWords t) (there : k < axes_in (length t)) (full : status_of (row_at t k) ≢ Empty) where
  -- Row k after a run without an erase of it is the row after those of its events that it heeds.
  pub survives : (cs : List Call) → Unerased (own k cs) → row_at (table_run t cs) k ≡ row_since (row_at t k) (heeded (own k cs))
  survives cs u = row_is t k words there cs ∙ heeded_alone (first_words t k words there cs) full (own k cs) u
