-- What lasts: what a refused call, a sample on a row that is not sampled, and events that begin no phase leave as it was.
use Rattle.std.specs.Prelude.{Result, Ok, Err, ℤ}
use mathlib.Core.Path.{◌≡◌, refl, sym, ◌∙◌, ap}
use mathlib.Core.Bool.{Bool, true, false, cond, true≢false, ◌&&◌}
use mathlib.Core.List.{List, [], ◌∷◌, ◌++◌, append-nil}
use Prim.Native.Nat.{ℕ}
use Rattle.integers.proofs.Balance.{Decided, yes, no, test}
use Rattle.position.specs.Position.{in_range}
use Rattle.refusal.specs.declared.Refusal.{Refusal}
use Rattle.reckon.specs.Widening.{widened}
use Rattle.axis.specs.Config.{good_config}
use Rattle.axis.specs.Kind.{sampled_kind}
use Rattle.axis.specs.Row.{axis_of, empty_row, Words}
use Rattle.axis_sound.specs.Sound.{is_empty, status_of}
use Rattle.axis.specs.declared.row.Row.{Row}
use Rattle.axis_sound.specs.declared.Status.{Status}
use Rattle.axis_sound.specs.declared.Status.TheVariants.{Empty, Sampled, Counter, Broken}
use Rattle.row_sample.specs.Sample.{step_by, step_row}
use Rattle.row_sample.proofs.SampleLaws.{broken_stays}
use Rattle.record.specs.Record.{read_as}
use Rattle.runs.specs.Told.{marks_of}
use Rattle.row_calls.specs.Calls.{left_by}
use Rattle.row_calls.proofs.SetupLaws.{not_zero, setup_full, setup_done, setup_makes, erase_makes}
use Rattle.row_calls.proofs.StatusLaws.{Live, made_live}
use Rattle.row_saving.specs.Saving.{is_read, restore_row}
use Rattle.row_saving.proofs.SaveLaws.{restore_done, restore_makes, restore_full}
use Rattle.row_calls.specs.Calls.{Setup, Erase, Preset, Arm, Acknowledge}
use Rattle.runs.specs.Op.{Op, changes, restore, reading, looks, rule_of, row_after, RefusedFor}
use Rattle.runs.specs.Event.{Event, bits, asked, row_next, row_since}
use Rattle.runs.proofs.CallLaws.{refused_after}
use Rattle.history.specs.Phase.{Phase, moved, by_sort, read_to, restored_to, after_change}
use Rattle.history.specs.Phase.{after_call, after_event, phase_of, told_by, told_row}
use Rattle.history.specs.Lasting.{erases, makes_axis, begins, Lasting, Unerased, unheeded, heeded}
use Rattle.history.proofs.PhaseLaws.{told_configured}
use Rattle.history.proofs.RowHistory.{phase_lawful, row_history, status_history}
use Rattle.record_axis.specs.declared.saved.Saved.{Saved}

-- ---- one event

-- A call that is refused changes nothing.
pub refused_stays : (r : Row) (o : Op) (e : Refusal) → RefusedFor r o e → row_next r (asked o) ≡ r
unfolding row_next
refused_stays r o e q = refused_after r o e q

-- A sample changes no empty row, no counter and no broken row.
pub sample_stays : (r : Row) (n : ℕ) → (status_of r ≡ Sampled → ⊥) → row_next r (bits n) ≡ r
unfolding row_next step_row step_by
sample_stays r n not_sampled = go (status_of r) refl
  where
    go : (s : Status) → status_of r ≡ s → (step_by s r n).row ≡ r
    go Empty e = refl
    go Sampled e = absurd (not_sampled e)
    go Counter e = refl
    go Broken e = refl

-- ---- what begins a phase

-- What is an erase empties every row.
pub erase_empties : (r : Row) (e : Event) → erases e ≡ true → row_next r e ≡ empty_row
unfolding row_next row_after rule_of erases
erase_empties r (bits n) q = absurd (true≢false (sym q))
erase_empties r (asked (changes (Setup kind depth width turn))) q = absurd (true≢false (sym q))
erase_empties r (asked (changes Erase)) q = ap (left_by r) (erase_makes r).0
erase_empties r (asked (changes (Preset z))) q = absurd (true≢false (sym q))
erase_empties r (asked (changes Arm)) q = absurd (true≢false (sym q))
erase_empties r (asked (changes Acknowledge)) q = absurd (true≢false (sym q))
erase_empties r (asked (restore bytes)) q = absurd (true≢false (sym q))
erase_empties r (asked (reading x)) q = absurd (true≢false (sym q))
erase_empties r (asked (looks l)) q = absurd (true≢false (sym q))

-- What makes an axis makes a sampled row or a counter of an empty row.
pub axis_made : (r : Row) → status_of r ≡ Empty → (e : Event) → makes_axis e ≡ true → Live (row_next r e)
unfolding row_next row_after rule_of makes_axis
axis_made r empty (bits n) q = absurd (true≢false (sym q))
axis_made r empty (asked (changes (Setup kind depth width turn))) q =
    let made = setup_done kind depth width turn r empty q in
    rw made (made_live _ (sampled_kind kind) (setup_makes kind depth width turn r _ made).status)
axis_made r empty (asked (changes Erase)) q = absurd (true≢false (sym q))
axis_made r empty (asked (changes (Preset z))) q = absurd (true≢false (sym q))
axis_made r empty (asked (changes Arm)) q = absurd (true≢false (sym q))
axis_made r empty (asked (changes Acknowledge)) q = absurd (true≢false (sym q))
axis_made r empty (asked (restore bytes)) q = go (read_as bytes) refl q
  where
    go : (a : Result Saved Refusal) → read_as bytes ≡ a → is_read a ≡ true → Live (left_by r (restore_row bytes r))
    go (Err e) h w = absurd (true≢false (sym w))
    go (Ok said) h w =
        let made = restore_done bytes said r h empty in
        rw made (made_live _ (sampled_kind said.config.kind) (restore_makes bytes said r h _ made).status)
axis_made r empty (asked (reading x)) q = absurd (true≢false (sym q))
axis_made r empty (asked (looks l)) q = absurd (true≢false (sym q))

-- ---- until a phase begins

module _ (p : Phase) where
  sort_start : (q u : Phase) → q.start ≡ p.start → u.start ≡ p.start → (s : Status) → (by_sort q u s p).start ≡ p.start
  sort_start q u f g Empty = refl
  sort_start q u f g Sampled = f
  sort_start q u f g Counter = g
  sort_start q u f g Broken = refl

  test_start : (b : Bool) (q : Phase) → q.start ≡ p.start → (cond b q p).start ≡ p.start
  test_start true q f = f
  test_start false q f = refl

  read_start : (a : Result ℤ Refusal) → (read_to p a).start ≡ p.start
  read_start (Ok z) = refl
  read_start (Err e) = refl

  empty_start : (a g : Bool) (q : Phase) → a && g ≡ false → (cond a (cond g q p) p).start ≡ p.start
  empty_start true true q f = absurd (true≢false f)
  empty_start true false q f = refl
  empty_start false g q f = refl

  restored_start : (a : Result Saved Refusal) → is_empty p.start && is_read a ≡ false → (restored_to p a).start ≡ p.start
  restored_start (Ok s) q = empty_start (is_empty p.start) true _ q
  restored_start (Err e) q = refl

  -- An event that begins no phase leaves the phase's start.
  start_next : (e : Event) → begins p.start e ≡ false → (after_event p e).start ≡ p.start
  unfolding after_event after_call after_change begins erases makes_axis
  start_next (bits n) q = sort_start _ p refl refl (status_of p.start)
  start_next (asked (changes (Setup kind depth width turn))) q = empty_start (is_empty p.start) (good_config kind depth width turn) _ q
  start_next (asked (changes Erase)) q = absurd (true≢false q)
  start_next (asked (changes (Preset z))) q = test_start (in_range z) _ (sort_start _ (moved p z) refl refl (status_of p.start))
  start_next (asked (changes Arm)) q = sort_start _ p refl refl (status_of p.start)
  start_next (asked (changes Acknowledge)) q = sort_start _ p refl refl (status_of p.start)
  start_next (asked (restore bytes)) q = restored_start (read_as bytes) q
  start_next (asked (reading x)) q =
      sort_start p _ refl (read_start (widened (axis_of p.start).config.width p.place x)) (status_of p.start)
  start_next (asked (looks l)) q = refl

-- Newer events that begin no phase leave the start of the phase that they found.
pub start_since : (r : Row) (new old : List Event) → Lasting (phase_of r old).start new →
    (phase_of r (new ++ old)).start ≡ (phase_of r old).start
unfolding phase_of
start_since r [] old l = refl
start_since r (e ∷ new) old l =
    let same = start_since r new old l.1 in
    start_next (phase_of r (new ++ old)) e (ap (λ (s : Row). begins s e) same ∙ l.0) ∙ same

-- Events that begin no phase leave the given row as the start.
pub start_lasts : (r : Row) (h : List Event) → Lasting r h → (phase_of r h).start ≡ r
unfolding phase_of
start_lasts r h l = ap (λ (g : List Event). (phase_of r g).start) (sym (append-nil h)) ∙ start_since r h [] l

-- On a row that is not empty an erase alone begins a phase.
pub full_lasts : (r : Row) → (status_of r ≡ Empty → ⊥) → (h : List Event) → Unerased h → Lasting r h
unfolding begins
full_lasts r full [] u = tt
full_lasts r full (e ∷ h) u = (rw (u.0, not_zero r full), full_lasts r full h u.1)

module _ {r : Row} (words : Words r) (h : List Event) (lasting : Lasting r h) where
  -- A row stays empty, sampled, a counter or broken until a setup, an erase or a restore is accepted.
  pub status_lasts : status_of (row_since r h) ≡ status_of r
  status_lasts = status_history words h ∙ ap status_of (start_lasts r h lasting)

  -- It keeps its kind, depth, width and counts per turn until then.
  pub configuration_lasts : (axis_of (row_since r h)).config ≡ (axis_of r).config
  configuration_lasts =
      ap (λ (s : Row). (axis_of s).config) (row_history words h)
      ∙ told_configured (phase_lawful words h)
      ∙ ap (λ (s : Row). (axis_of s).config) (start_lasts r h lasting)

  -- A row that is neither sampled nor a counter is the row that its phase began with.
  idle_lasts : (s : Status) → told_by s (phase_of r h) ≡ (phase_of r h).start → status_of r ≡ s → row_since r h ≡ r
  unfolding told_row
  idle_lasts s same e =
      let start = start_lasts r h lasting in
      row_history words h ∙ ap (λ (t : Status). told_by t (phase_of r h)) (ap status_of start ∙ e) ∙ same ∙ start

  -- An empty row keeps every word until then.
  pub empty_lasts : status_of r ≡ Empty → row_since r h ≡ r
  unfolding told_by
  empty_lasts = idle_lasts Empty refl

  -- A broken row keeps every word until then.
  pub broken_lasts : status_of r ≡ Broken → row_since r h ≡ r
  unfolding told_by
  broken_lasts = idle_lasts Broken refl

  -- Each sample on a broken row sets its broken bit and no other until then.
  pub broken_marked : status_of r ≡ Broken → (n : ℕ) →
      marks_of (step_row (row_since r h) n) ≡ record { double = false; index = false; broken = true }
  broken_marked e n = ap marks_of (broken_stays (row_since r h) n (status_lasts ∙ e))

-- ---- what a row that is not empty does not heed

-- A setup, a restore and a look leave a row that is not empty.
pub unheeded_stays : (r : Row) → (status_of r ≡ Empty → ⊥) → (e : Event) → unheeded e ≡ true → row_next r e ≡ r
unfolding row_next row_after rule_of unheeded
unheeded_stays r full (bits n) q = absurd (true≢false (sym q))
unheeded_stays r full (asked (changes (Setup kind depth width turn))) q = ap (left_by r) (setup_full kind depth width turn r full)
unheeded_stays r full (asked (changes Erase)) q = absurd (true≢false (sym q))
unheeded_stays r full (asked (changes (Preset z))) q = absurd (true≢false (sym q))
unheeded_stays r full (asked (changes Arm)) q = absurd (true≢false (sym q))
unheeded_stays r full (asked (changes Acknowledge)) q = absurd (true≢false (sym q))
unheeded_stays r full (asked (restore bytes)) q = ap (left_by r) (restore_full bytes r full)
unheeded_stays r full (asked (reading x)) q = absurd (true≢false (sym q))
unheeded_stays r full (asked (looks l)) q = refl

-- A row that is not empty is, after events without an erase, the row after those of them that it heeds.
pub heeded_alone : {r : Row} → Words r → (status_of r ≡ Empty → ⊥) → (h : List Event) → Unerased h → row_since r h ≡ row_since r (heeded h)
unfolding row_since heeded
heeded_alone words full [] u = refl
heeded_alone {r} words full (e ∷ h) u = go (test (unheeded e)) (heeded_alone words full h u.1)
  where
    still : status_of (row_since r h) ≡ Empty → ⊥
    still z = full (sym (status_lasts words h (full_lasts r full h u.1)) ∙ z)

    go : Decided (unheeded e) → row_since r h ≡ row_since r (heeded h) →
        row_since r (e ∷ h) ≡ row_since r (cond (unheeded e) (heeded h) (e ∷ heeded h))
    go (yes q) same = rw q (unheeded_stays (row_since r h) still e q ∙ same)
    go (no q) same = rw q (ap (λ (s : Row). row_next s e) same)
