-- A call of a run is what the contract of that call promises: `Samples` of table_port; `Makes` of table_change; `ReadingMakes`,
-- `SaveMakes`, `viewed_in` and `speed_in` of table.
use Rattle.std.specs.Prelude.{Result, Ok, Err, ⊤}
use Prim.Native.Nat.{ℕ}
use native.Mathlib.Omega.{arith}
use mathlib.Core.Path.{◌≡◌, refl, sym, ap, ◌∙◌}
use mathlib.Core.Logic.{◌↔◌}
use mathlib.Core.List.{List}
use lib.IntN.{ℤ}
use lib.ListN.{length}
use Rattle.refusal.specs.declared.Refusal.{Refusal}
use Rattle.axis.specs.declared.row.Row.{Row}
use Rattle.row_calls.specs.Answer.{done_of}
use Rattle.row_calls.specs.Calls.{change_row, setup_row, erase_row, preset_row, arm_row, acknowledge_row}
use Rattle.row_view.specs.View.{view_row}
use Rattle.row_saving.specs.Saving.{save_row, saved_in, restore_row}
use Rattle.row_speed.specs.Speed.{speed_row}
use Rattle.row_counter.specs.Reading.{reading_row}
use Rattle.row_calls.specs.Calls.{Change}
use Rattle.row_calls.specs.Calls.{Setup, Erase, Preset, Arm, Acknowledge}
use Rattle.table_rows.specs.Located.{located, on_found}
use Rattle.table_port.specs.Port.{Samples}
use Rattle.table_change.specs.Making.{Makes}
use Rattle.table.specs.Call.{viewed_in, ReadingMakes, speed_in, SaveMakes}
use Rattle.runs.specs.Told.{Told, refused, told_done, told_view, told_number, told_speed, told_bytes}
use Rattle.runs.specs.Op.{Op, view, speed, save, changes, restore, reading, looks, look_row, rule_of, answer_of}
use Rattle.runs.specs.Run.{port, table_by, table_next, bits_of, answer_in, heard_of, Says}
use Rattle.runs.proofs.CallLaws.{look_keeps}
use Rattle.speed.specs.declared.Quotient.{Quotient}
use Rattle.row_view.specs.declared.answer.View.{View}
use Rattle.table_port.specs.declared.Masks.{Masks}

-- ---- an answer and what it tells are one

-- What is told of an answer that goes by the named row.
tell_found : {A : Type 0} (tell : A → Told) (refuse : Refusal → A) (say : Row → A) → ((e : Refusal) → tell (refuse e) ≡ refused e) →
    (l : Result Row Refusal) → tell (on_found refuse say l) ≡ on_found refused (λ r. tell (say r)) l
tell_found tell refuse say same (Ok r) = refl
tell_found tell refuse say same (Err e) = same e

done_only : (a b : Result ⊤ Refusal) → told_done a ≡ told_done b → a ≡ b
done_only (Ok _) (Ok _) q = refl
done_only (Ok _) (Err e) q = absurd (let z : ◌≡◌ {A = ℕ} 0 1 = cc in omega arith)
done_only (Err e) (Ok _) q = absurd (let z : ◌≡◌ {A = ℕ} 0 1 = cc in omega arith)
done_only (Err e) (Err f) q = cc

view_only : (a b : Result View Refusal) → told_view a ≡ told_view b → a ≡ b
view_only (Ok v) (Ok w) q = cc
view_only (Ok v) (Err e) q = absurd (let z : ◌≡◌ {A = ℕ} 0 1 = cc in omega arith)
view_only (Err e) (Ok v) q = absurd (let z : ◌≡◌ {A = ℕ} 0 1 = cc in omega arith)
view_only (Err e) (Err f) q = cc

number_only : (a b : Result ℤ Refusal) → told_number a ≡ told_number b → a ≡ b
number_only (Ok x) (Ok y) q = cc
number_only (Ok x) (Err e) q = absurd (let z : ◌≡◌ {A = ℕ} 0 1 = cc in omega arith)
number_only (Err e) (Ok x) q = absurd (let z : ◌≡◌ {A = ℕ} 0 1 = cc in omega arith)
number_only (Err e) (Err f) q = cc

speed_only : (a b : Result Quotient Refusal) → told_speed a ≡ told_speed b → a ≡ b
speed_only (Ok p) (Ok q) e = cc
speed_only (Ok p) (Err d) e = absurd (let z : ◌≡◌ {A = ℕ} 0 1 = cc in omega arith)
speed_only (Err d) (Ok q) e = absurd (let z : ◌≡◌ {A = ℕ} 0 1 = cc in omega arith)
speed_only (Err d) (Err g) e = cc

-- ---- the eleven calls

-- A port sample.
pub sample_run : {t u : List ℕ} {word : ℕ} {a : Result Masks Refusal} → Samples t word u a →
    (u ≡ table_next t (port word)) × ((k : ℕ) → bits_of k a ≡ heard_of k t (port word))
unfolding table_next heard_of
sample_run w = (w.table, λ k. ap (bits_of k) w.answer)

module _ {t u : List ℕ} {k : ℕ} where
  -- A call that answers only that it was done, by its rule.
  done_run : (o : Op) (rule : Row → Result Row Refusal) → rule_of o ≡ rule → answer_of o ≡ (λ r. told_done (done_of (rule r))) → {a : Result ⊤ Refusal} →
      Makes rule t k u a ↔ Says o t k u (told_done a)
  unfolding table_next table_by answer_in
  done_run o rule f g {a} =
      let told = tell_found (λ (d : Result Row Refusal). told_done (done_of d)) Err rule (λ e. refl) (located t k) in (
        (λ w. record { table = rw f w.table; told = rw g (ap told_done w.answer ∙ told) }),
        (λ s. record { answer = done_only a _ (rw g at s.told ∙ sym told); table = rw f at s.table }),
      )

  -- The five that are one enum of changes.
  change_run : (c : Change) {a : Result ⊤ Refusal} → Makes (change_row c) t k u a ↔ Says (changes c) t k u (told_done a)
  unfolding rule_of answer_of
  change_run c = done_run (changes c) (change_row c) refl refl

  -- Setup.
  pub setup_run : (kind depth width turn : ℕ) {a : Result ⊤ Refusal} →
      Makes (setup_row kind depth width turn) t k u a ↔ Says (changes (Setup kind depth width turn)) t k u (told_done a)
  setup_run kind depth width turn = change_run (Setup kind depth width turn)

  -- Erase.
  pub erase_run : {a : Result ⊤ Refusal} → Makes erase_row t k u a ↔ Says (changes Erase) t k u (told_done a)
  erase_run = change_run Erase

  -- Preset.
  pub preset_run : (p : ℤ) {a : Result ⊤ Refusal} → Makes (preset_row p) t k u a ↔ Says (changes (Preset p)) t k u (told_done a)
  preset_run p = change_run (Preset p)

  -- Arm.
  pub arm_run : {a : Result ⊤ Refusal} → Makes arm_row t k u a ↔ Says (changes Arm) t k u (told_done a)
  arm_run = change_run Arm

  -- Acknowledge.
  pub acknowledge_run : {a : Result ⊤ Refusal} → Makes acknowledge_row t k u a ↔ Says (changes Acknowledge) t k u (told_done a)
  acknowledge_run = change_run Acknowledge

  -- Restore.
  pub restore_run : (bytes : List ℕ) {a : Result ⊤ Refusal} → Makes (restore_row bytes) t k u a ↔ Says (restore bytes) t k u (told_done a)
  unfolding rule_of answer_of
  restore_run bytes = done_run (restore bytes) (restore_row bytes) refl refl

  -- A reading.
  pub reading_run : (x : ℕ) {a : Result ℤ Refusal} → ReadingMakes x t k u a ↔ Says (reading x) t k u (told_number a)
  unfolding table_next table_by answer_in answer_of rule_of
  reading_run x {a} =
      let told = tell_found told_number Err (reading_row x) (λ e. refl) (located t k) in (
        (λ w. record { table = w.table; told = ap told_number w.answer ∙ told }),
        (λ s. record { answer = number_only a _ (s.told ∙ sym told); table = s.table }),
      )

  -- A view, which leaves the table.
  pub view_run : {a : Result View Refusal} → ((u ≡ t) × (a ≡ viewed_in t k)) ↔ Says (looks view) t k u (told_view a)
  unfolding table_next answer_in answer_of look_row
  view_run {a} =
      let told = tell_found told_view Err view_row (λ e. refl) (located t k) in (
        (λ w. record { table = w.0 ∙ sym (look_keeps t k view); told = ap told_view w.1 ∙ told }),
        (λ s. (s.table ∙ look_keeps t k view, view_only a _ (s.told ∙ sym told))),
      )

  -- A speed by period, which leaves the table.
  pub speed_run : (rate : ℕ) {a : Result Quotient Refusal} → ((u ≡ t) × (a ≡ speed_in rate t k)) ↔ Says (looks (speed rate)) t k u (told_speed a)
  unfolding table_next answer_in answer_of look_row
  speed_run rate {a} =
      let told = tell_found told_speed Err (speed_row rate) (λ e. refl) (located t k) in (
        (λ w. record { table = w.0 ∙ sym (look_keeps t k (speed rate)); told = ap told_speed w.1 ∙ told }),
        (λ s. (s.table ∙ look_keeps t k (speed rate), speed_only a _ (s.told ∙ sym told))),
      )

-- A save, which leaves the table: b is what the buffer holds before it, d after it.
pub save_run : {t : List ℕ} {k : ℕ} {b d : List ℕ} {a : Result ℕ Refusal} → SaveMakes t k b d a → Says (looks (save b)) t k t (told_bytes a d)
unfolding table_next answer_in answer_of look_row
save_run {t} {k} {b} {d} {a} w = record { table = sym (look_keeps t k (save b)); told = rw (w.answer, w.buffer) (go (located t k)) }
  where
    go : (l : Result Row Refusal) →
        told_bytes (on_found Err (save_row (length b)) l) (on_found (λ _. b) (saved_in b) l)
        ≡ on_found refused (answer_of (looks (save b))) l
    go (Ok r) = refl
    go (Err e) = refl
