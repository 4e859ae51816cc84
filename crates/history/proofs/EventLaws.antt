-- One event more: a row and the phase that tells it stay together.
use Rattle.std.specs.Prelude.{Result, Ok, Err}
use mathlib.Core.Path.{◌≡◌, refl, sym, ◌∙◌, ap, subst}
use mathlib.Core.Bool.{Bool, true, false, cond, true≢false}
use mathlib.Core.List.{List, [], ◌∷◌}
use Prim.Native.Nat.{ℕ}
use native.Mathlib.Omega.{arith}
use lib.IntN.{ℤ, pos}
use Rattle.integers.proofs.Balance.{Decided, yes, no, test}
use Rattle.position.specs.Position.{in_range, word_of}
use Rattle.position.proofs.PositionLaws.{word_position, position_word, position_in_range}
use Rattle.refusal.specs.declared.Refusal.{Refusal}
use Rattle.refusal.specs.declared.Refusal.TheVariants.{Kind as KIND, Occupied as OCCUPIED}
use Rattle.reckon.specs.Widening.{widened}
use Rattle.reckon.proofs.NearestLaws.{nearest}
use Rattle.axis.specs.Config.{good_config}
use Rattle.axis.specs.Row.{axis_of, word1_of, word2_of, row_of, Words}
use Rattle.axis_sound.specs.Sound.{is_empty, status_of, passes}
use Rattle.axis.specs.declared.row.Axis.{Axis}
use Rattle.axis.specs.declared.row.Row.{Row}
use Rattle.axis_sound.specs.declared.Status.{Status}
use Rattle.axis_sound.specs.declared.Status.TheVariants.{Empty, Sampled, Counter, Broken}
use Rattle.axis_sound.proofs.SoundLaws.{status_exactly, counter_gives, packed_again}
use Rattle.axis_filter.specs.Lines.{raw_of}
use Rattle.row_sample.specs.Sample.{step_by, step_row}
use Rattle.record.specs.Record.{read_as}
use Rattle.record_axis.proofs.LimitsLaws.{within_parts}
use Rattle.record.proofs.RecordLaws.{accepted_within}
use Rattle.row_calls.specs.Change.{changed}
use Rattle.row_counter.specs.Reading.{read_axis, reading_of, reading_row, stored_row, read_row}
use Rattle.row_calls.specs.Calls.{by_status, left_by, on_empty, config_of, change_row, setup_row, erase_row, place_row, preset_row, arm_row}
use Rattle.row_calls.specs.Calls.{acknowledge_row}
use Rattle.row_calls.proofs.SetupLaws.{not_zero}
use Rattle.row_saving.specs.Saving.{said_row, restored_by, restore_row}
use Rattle.history_axis.specs.Acts.{Act, act, sampled, Allowed}
use Rattle.history_axis.specs.Acts.{preset as placed, arm as armed, acknowledge as acknowledged}
use Rattle.history_axis.specs.Told.{told_axis}
use Rattle.row_calls.specs.Calls.{Change}
use Rattle.row_calls.specs.Calls.{Setup, Erase, Preset, Arm, Acknowledge}
use Rattle.runs.specs.Op.{Op, changes, restore, reading, looks, rule_of, row_after}
use Rattle.runs.specs.Event.{Event, bits, asked, row_next, row_since}
use Rattle.history.specs.Phase.{Phase, begun, acted, moved, by_sort, read_to, in_empty, restored_to}
use Rattle.history.specs.Phase.{after_change, after_call, after_event, phase_of, told_by, told_row}
use Rattle.history.specs.Lawful.{Beginning, given, erased, made, Lawful}
use Rattle.history_axis.proofs.ToldLaws.{told_first, act_told}
use Rattle.history_axis.proofs.StartLaws.{start_sound}
use Rattle.history.proofs.PhaseLaws.{counter_preset, start_words, told_holds, axis_sampled, axis_counter}
use Rattle.record_axis.specs.declared.saved.Saved.{Saved}

-- A phase tells a row.
pub record Tells (r : Row) (p : Phase) (now : Row) : Type 0 where
  pub lawful : Lawful r p
  pub row : now ≡ told_row p

-- A test before the sorts is a test in each.
test_sorts : (b : Bool) (q u p : Phase) (s : Status) → cond b (by_sort q u s p) p ≡ by_sort (cond b q p) (cond b u p) s p
test_sorts true q u p s = refl
test_sorts false q u p Empty = refl
test_sorts false q u p Sampled = refl
test_sorts false q u p Counter = refl
test_sorts false q u p Broken = refl

module _ {r : Row} (words : Words r) where
  -- A phase that has just begun tells the row that it began with.
  starts : {s : Row} → Beginning r s → Tells r (begun s) s
  unfolding told_row told_by changed
  starts {s} b = record {
    lawful = record { began = b; legal = tt; placed = λ e. position_in_range s.w0 (counter_gives s e).word };
    row = go (status_of s) refl;
  }
    where
      again : (status_of s ≡ Broken → ⊥) → row_of (axis_of s) ≡ s
      again = packed_again s (start_words words b)

      go : (t : Status) → status_of s ≡ t → s ≡ told_by t (begun s)
      go Empty e = refl
      go Sampled e = sym (ap row_of (told_first (axis_of s) (start_sound s e)) ∙ again (λ f. let z : ◌≡◌ {A = ℕ} 0 1 = cc in omega arith))
      go Counter e =
          let same = word_position s.w0 (counter_gives s e).word in
          sym (ap (λ (w : ℕ). record { w0 = w; w1 = word1_of (axis_of s); w2 = word2_of (axis_of s); w3 = s.w3 }) same
          ∙ again (λ f. let z : ◌≡◌ {A = ℕ} 0 1 = cc in omega arith))
      go Broken e = refl

  module _ {p : Phase} {now : Row} (t : Tells r p now) where
    status_now : status_of now ≡ status_of p.start
    status_now = ap status_of t.row ∙ (told_holds t.lawful words).status

    sampled_now : status_of p.start ≡ Sampled → axis_of now ≡ told_axis (axis_of p.start) p.acts
    sampled_now e = ap axis_of t.row ∙ axis_sampled t.lawful e

    counter_now : status_of p.start ≡ Counter → axis_of now ≡ read_axis p.place (axis_of p.start)
    counter_now e = ap axis_of t.row ∙ axis_counter t.lawful e

    -- One act more on a sampled row.
    acts : (a : Act) → Allowed a → status_of p.start ≡ Sampled → Tells r (acted p a) (row_of (act (axis_of now) a))
    unfolding told_row told_by
    acts a ok e =
        let l = t.lawful in
        record {
          lawful = record { began = l.began; legal = (ok, l.legal); placed = l.placed };
          row =
              rw e (ap (λ (x : Axis). row_of (act x a)) (sampled_now e)
              ∙ ap row_of (act_told (axis_of p.start) (start_sound p.start e) a p.acts (ok, l.legal)));
        }

    -- Another position of a counter.
    moves : (z : ℤ) → in_range z ≡ true → status_of p.start ≡ Counter → Tells r (moved p z) (row_of (read_axis z (axis_of now)))
    unfolding told_row told_by changed
    moves z ok e =
        let l = t.lawful in
        record {
          lawful = record { began = l.began; legal = l.legal; placed = λ _. ok };
          row = rw e (ap (λ (x : Axis). row_of (read_axis z x)) (counter_now e));
        }

    -- What a reading says of the row, it says of the phase's place.
    pub reading_told : (x : ℕ) → status_of p.start ≡ Counter →
        reading_of x (axis_of now) ≡ widened (axis_of p.start).config.width p.place x
    unfolding changed
    reading_told x e =
        ap (reading_of x) (counter_now e)
        ∙ ap (λ (z : ℤ). widened (axis_of p.start).config.width z x) (position_word p.place (t.lawful.placed e))

    -- What goes by the row's status, and leaves an empty and a broken row.
    by_sort_lem : (next : Status → Row) (sampledOne counterOne : Phase) → next Empty ≡ now → next Broken ≡ now →
        (status_of p.start ≡ Sampled → Tells r sampledOne (next Sampled)) →
        (status_of p.start ≡ Counter → Tells r counterOne (next Counter)) →
        Tells r (by_sort sampledOne counterOne (status_of p.start) p) (next (status_of now))
    by_sort_lem next sampledOne counterOne empty broken onSampled onCounter = rw status_now (go (status_of p.start) refl)
      where
        go : (s : Status) → status_of p.start ≡ s → Tells r (by_sort sampledOne counterOne s p) (next s)
        go Empty e = rw empty t
        go Sampled e = onSampled e
        go Counter e = onCounter e
        go Broken e = rw broken t

    -- What goes by a test of the arguments: another row and another phase, or neither.
    by_test : (b : Bool) (q : Phase) (s : Row) (e : Refusal) → (b ≡ true → Tells r q s) →
        Tells r (cond b q p) (left_by now (cond b (Ok s) (Err e)))
    by_test true q s e f = f refl
    by_test false q s e f = t

    -- The row is empty where the phase began with an empty one.
    vacant_now : is_empty now ≡ is_empty p.start
    unfolding passes
    vacant_now = go (test (is_empty now))
      where
        go : Decided (is_empty now) → is_empty now ≡ is_empty p.start
        go (yes a) = a ∙ sym ((status_exactly Empty p.start).0 (sym status_now ∙ (status_exactly Empty now).1 a))
        go (no a) = a ∙ sym (not_zero p.start (λ e. true≢false (sym ((status_exactly Empty now).0 (status_now ∙ e)) ∙ a)))

    -- What wants an empty row: another phase there, and in any other neither row nor phase.
    in_empty_lem : (c : Result Row Refusal) (q : Phase) → Tells r q (left_by now c) → Tells r (in_empty q p) (left_by now (on_empty c now))
    in_empty_lem c q there = rw vacant_now (go (is_empty p.start))
      where
        go : (b : Bool) → Tells r (cond b q p) (left_by now (cond b c (Err OCCUPIED)))
        go true = there
        go false = t

    -- ---- the events

    sets : (kind depth width turn : ℕ) → Tells r (after_change p (Setup kind depth width turn))
        (left_by now (setup_row kind depth width turn now))
    unfolding after_change setup_row word_of in_range
    sets kind depth width turn =
        in_empty_lem _ _
        (by_test (good_config kind depth width turn) _ _ _ (λ good. starts (made (config_of kind depth width turn) (pos 0) good refl)))

    presets : (z : ℤ) → Tells r (after_change p (Preset z)) (left_by now (preset_row z now))
    unfolding after_change preset_row place_row act
    presets z =
        subst (λ (q : Phase). Tells r q (left_by now (preset_row z now)))
        (sym (test_sorts (in_range z) (acted p (placed z)) (moved p z) p (status_of p.start)))
        (by_sort_lem (λ s. left_by now (by_status Err (place_row z now) (place_row z now) s)) _ _ refl refl
        (λ e. by_test (in_range z) _ _ _ (λ ok. acts (placed z) ok e))
        (λ e. by_test (in_range z) _ _ _ (λ ok. rw (counter_preset (counter_gives now (status_now ∙ e)) z) (moves z ok e))))

    -- A call on sampled rows only.
    sampled_only : (a : Act) → Allowed a →
        Tells r (by_sort (acted p a) p (status_of p.start) p)
        (left_by now (by_status Err (Ok (row_of (act (axis_of now) a))) (Err KIND) (status_of now)))
    sampled_only a ok =
        by_sort_lem (λ s. left_by now (by_status Err (Ok (row_of (act (axis_of now) a))) (Err KIND) s)) (acted p a) p refl refl (acts a ok)
        (λ e. t)

    readings : (x : ℕ) → Tells r (after_call p (reading x)) (left_by now (read_row x now))
    unfolding after_call read_row reading_row stored_row
    readings x =
        by_sort_lem (λ s. left_by now (stored_row now (by_status Err (Err KIND) (reading_of x (axis_of now)) s))) p _ refl refl
        (λ e. t)
        (λ e. rw (reading_told x e) (go e (widened (axis_of p.start).config.width p.place x) refl))
      where
        go : status_of p.start ≡ Counter → (a : Result ℤ Refusal) → widened (axis_of p.start).config.width p.place x ≡ a →
            Tells r (read_to p a) (left_by now (stored_row now a))
        go e (Ok z) f = moves z (nearest (axis_of p.start).config.width p.place z x f).0 e
        go e (Err c) f = t

    restores : (bytes : List ℕ) → Tells r (after_call p (restore bytes)) (left_by now (restore_row bytes now))
    unfolding after_call restore_row restored_by
    restores bytes = go (read_as bytes) refl
      where
        go : (a : Result Saved Refusal) → read_as bytes ≡ a → Tells r (restored_to p a) (left_by now (restored_by a now))
        go (Ok s) e =
            let w = within_parts s (accepted_within bytes s e) in
            in_empty_lem (Ok (said_row s)) (begun (said_row s)) (starts (made s.config s.position w.0 w.1))
        go (Err f) e = t

    changed_by : (c : Change) → Tells r (after_change p c) (left_by now (change_row c now))
    unfolding after_change erase_row arm_row acknowledge_row act
    changed_by (Setup kind depth width turn) = sets kind depth width turn
    changed_by Erase = starts erased
    changed_by (Preset z) = presets z
    changed_by Arm = sampled_only armed tt
    changed_by Acknowledge = sampled_only acknowledged tt

    calls : (o : Op) → Tells r (after_call p o) (row_after now o)
    unfolding after_call row_after rule_of
    calls (changes c) = changed_by c
    calls (restore bytes) = restores bytes
    calls (reading x) = readings x
    calls (looks l) = t

    events : (e : Event) → Tells r (after_event p e) (row_next now e)
    unfolding after_event row_next step_row step_by act
    events (bits n) = by_sort_lem (λ s. (step_by s now n).row) (acted p (sampled (raw_of n))) p refl refl (acts (sampled (raw_of n)) tt) (λ e. t)
    events (asked o) = calls o

  -- The phase after any events tells the row after them.
  pub tells : (h : List Event) → Tells r (phase_of r h) (row_since r h)
  unfolding phase_of row_since
  tells [] = starts given
  tells (e ∷ h) = events (tells h) e
