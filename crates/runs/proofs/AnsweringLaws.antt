-- What a call answers on a row that it takes, for all calls at once.
use Rattle.std.specs.Prelude.{Result, Ok, Err}
use Prim.Native.Nat.{ℕ, zero, suc, ◌<◌}
use native.Mathlib.Omega.{arith}
use mathlib.Core.Path.{◌≡◌, refl, ap}
use mathlib.Core.Logic.{◌⊎◌, inl, inr}
use mathlib.Core.Bool.{true}
use mathlib.Core.List.{List}
use borrow.Author.Tests.{leb-true, leb-false, eqb-true, eqb-false}
use lib.Dec.{eqb, leb}
use lib.ListN.{length, drop}
use lib.Seq.{take_at}
use Rattle.integers.proofs.Balance.{Decided, yes, no, test}
use Rattle.position.specs.Position.{in_range}
use Rattle.reckon.proofs.NearestLaws.{verdict}
use Rattle.speed.specs.Speed.{good_rate}
use Rattle.speed.proofs.RoundingLaws.{divides}
use Rattle.axis.specs.Config.{good_config}
use Rattle.axis.specs.Row.{axis_of}
use Rattle.axis.specs.declared.row.Row.{Row}
use Rattle.axis_sound.specs.Sound.{status_of}
use Rattle.axis_sound.specs.declared.Status.{Status}
use Rattle.axis_sound.specs.declared.Status.TheVariants.{Empty, Sampled, Counter}
use Rattle.record.specs.Record.{read_as, record_of}
use Rattle.record.proofs.OrderLaws.{exactly}
use Rattle.record.proofs.RecordLaws.{written_shape}
use Rattle.row_calls.specs.Answer.{done_of}
use Rattle.row_calls.specs.Calls.{setup_row, erase_row}
use Rattle.row_calls.specs.Calls.{Setup, Erase, Preset, Arm, Acknowledge}
use Rattle.row_calls.proofs.StatusLaws.{Live}
use Rattle.row_calls.proofs.SetupLaws.{on_empty_lem}
use Rattle.row_calls.proofs.ReasonLaws.{preset_is, arm_is, acknowledge_is}
use Rattle.row_view.proofs.ViewLaws.{view_is}
use Rattle.row_counter.proofs.ReadingLaws.{reading_is}
use Rattle.row_speed.proofs.SpeedLaws.{speed_value, speed_still, speed_moving}
use Rattle.row_saving.specs.Saving.{saved_of, is_read, restore_row, restored_by}
use Rattle.row_saving.proofs.SaveLaws.{save_answers, save_front}
use Rattle.runs.specs.Told.{told_done}
use Rattle.runs.specs.Op.{Op, view, speed, save, changes, restore, reading, looks, look_row, answer_of}
use Rattle.runs.specs.Answering.{told_read, record_size, Answers}
use Rattle.runs.specs.Answering.{set_up, no_configuration, erased, placed, no_position, armed, acknowledged, restored, widened}
use Rattle.runs.specs.Answering.{viewed, no_rate, no_period, sped, no_room, saved}
use Rattle.runs.specs.Refusing.{needs_axis, wants_empty, WrongKind, Takes}
use Rattle.refusal.specs.declared.Refusal.{Refusal}
use Rattle.record_axis.specs.declared.saved.Saved.{Saved}

-- ---- the rows that a call takes

not_counter : {s : Status} → ((s ≡ Sampled) ⊎ (s ≡ Counter)) × (s ≡ Counter → ⊥) → s ≡ Sampled
not_counter (inl e, h) = e
not_counter (inr e, h) = absurd (h e)

not_sampled : {s : Status} → ((s ≡ Sampled) ⊎ (s ≡ Counter)) × (s ≡ Sampled → ⊥) → s ≡ Counter
not_sampled (inl e, h) = absurd (h e)
not_sampled (inr e, h) = e

-- ---- answers that take a step

above : (n : ℕ) → (n ≡ 0 → ⊥) → 0 < n
above zero h = absurd (h refl)
above (suc n) h = omega arith

-- A restore tells what the record's reader says, where the row is empty or the record refused.
read_told : (a : Result Saved Refusal) (r : Row) → (is_read a ≡ true → status_of r ≡ Empty) → told_done (done_of (restored_by a r)) ≡ told_read a
unfolding restored_by told_read
read_told (Ok s) r empty = ap (λ (c : Result Row Refusal). told_done (done_of c)) (on_empty_lem _ r (empty refl))
read_told (Err e) r empty = refl

module _ (r : Row) where
  speed_answered : (rate : ℕ) → status_of r ≡ Sampled → Answers r (looks (speed rate)) (answer_of (looks (speed rate)) r)
  unfolding answer_of look_row
  speed_answered rate s = go (test (good_rate rate)) (test (eqb (axis_of r).pace.period 0))
    where
      go : Decided (good_rate rate) → Decided (eqb (axis_of r).pace.period 0) →
          Answers r (looks (speed rate)) (answer_of (looks (speed rate)) r)
      go (no g) z = rw (speed_value rate r s g) (no_rate g)
      go (yes g) (yes z) = let e = eqb-true _ _ z in rw (speed_still rate r s g e) (no_period g e)
      go (yes g) (no z) =
          let p = above (axis_of r).pace.period (eqb-false (axis_of r).pace.period 0 z) in
          rw (speed_moving rate r s g p) (sped g p (divides _ _ (omega arith)))

  size : length (record_of (saved_of (axis_of r))) ≡ record_size (axis_of r)
  unfolding record_size
  size = (written_shape (saved_of (axis_of r))).long

  save_answered : (b : List ℕ) → Live r → Answers r (looks (save b)) (answer_of (looks (save b)) r)
  unfolding answer_of look_row
  save_answered b l = go (test (leb (length (record_of (saved_of (axis_of r)))) (length b)))
    where
      go : Decided (leb (length (record_of (saved_of (axis_of r)))) (length b)) → Answers r (looks (save b)) (answer_of (looks (save b)) r)
      go (no h) = rw (save_answers r l (length b), h) (no_room {b = b} (rw (← size) (leb-false _ _ h)))
      go (yes h) =
          let bytes = record_of (saved_of (axis_of r)) in
          let room = leb-true (length bytes) (length b) h in
          rw (save_answers r l (length b), h, save_front r l b room, take_at bytes (drop (length bytes) b) (length bytes) refl, size)
          (saved {b = b} (rw (← size) room))

-- ---- every call

-- What a call answers on a row that it takes is what one of its lines gives.
pub answers : (o : Op) (r : Row) → Takes o (status_of r) → Answers r o (answer_of o r)
unfolding Takes needs_axis wants_empty WrongKind answer_of look_row setup_row erase_row restore_row
answers (changes (Setup k d w n)) r t = go (test (good_config k d w n))
  where
    go : Decided (good_config k d w n) → Answers r (changes (Setup k d w n)) (answer_of (changes (Setup k d w n)) r)
    go (yes g) = rw (on_empty_lem _ r (t.1 refl), g) (set_up g)
    go (no g) = rw (on_empty_lem _ r (t.1 refl), g) (no_configuration g)
answers (changes Erase) r t = erased
answers (changes (Preset p)) r t = go (test (in_range p))
  where
    go : Decided (in_range p) → Answers r (changes (Preset p)) (answer_of (changes (Preset p)) r)
    go (yes g) = rw (preset_is p r (t.0 refl).0, g) (placed g)
    go (no g) = rw (preset_is p r (t.0 refl).0, g) (no_position g)
answers (changes Arm) r t = rw (arm_is r (not_counter (t.0 refl))) armed
answers (changes Acknowledge) r t = rw (acknowledge_is r (not_counter (t.0 refl))) acknowledged
answers (restore bytes) r t = rw (read_told (read_as bytes) r t.1) (restored ((exactly bytes (read_as bytes)).0 refl))
answers (reading x) r t = rw (reading_is x r (not_sampled (t.0 refl))) (widened (verdict _ _ x))
answers (looks view) r t = rw (view_is r (t.0 refl).0) viewed
answers (looks (speed rate)) r t = speed_answered r rate (not_counter (t.0 refl))
answers (looks (save b)) r t = save_answered r b (t.0 refl).0
