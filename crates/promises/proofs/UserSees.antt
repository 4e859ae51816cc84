-- What a user sees of axis k after any run: view, speed by period and save show what the history of axis k tells.
use Rattle.std.specs.Prelude.{Result, Ok}
use Prim.Native.Nat.{ℕ, ◌<◌}
use mathlib.Core.Path.{◌≡◌, ap, ◌∙◌}
use mathlib.Core.List.{List}
use lib.ListN.{length}
use Rattle.axis_sound.specs.Sound.{status_of}
use Rattle.axis_sound.specs.declared.Status.TheVariants.{Sampled, Counter}
use Rattle.record_axis.specs.declared.saved.Saved.{Saved}
use Rattle.record.specs.Record.{saved_as, written}
use Rattle.row_view.specs.View.{view_row}
use Rattle.row_speed.specs.Speed.{speed_of, speed_row}
use Rattle.row_saving.specs.Saving.{save_row, saved_in}
use Rattle.table_rows.specs.Table.{axes_in, row_at, AllWords}
use Rattle.table_rows.proofs.LocatedLaws.{found_at}
use Rattle.table.specs.Call.{viewed_in, speed_in, SaveMakes}
use Rattle.runs.specs.Event.{row_since}
use Rattle.runs.specs.Run.{Call, table_run}
use Rattle.history.specs.Phase.{phase_of, start_axis, acts_since}
use Rattle.history.specs.Seen.{view_told, pace_told, saved_told, counter_view, counter_saved}
use Rattle.history.proofs.SeenHistory.{view_seen, speed_seen, save_seen, view_counter_seen, save_counter_seen}
use Rattle.promises.specs.Own.{own}
use Rattle.promises.proofs.CountIsRight.{first_words, row_is, status_is, still_there}
use Rattle.refusal.specs.declared.Refusal.{Refusal}

module _ (t : List ℕ) (k : ℕ) (words : AllWords t) (h : k < axes_in (length t)) (cs : List Call) where
  -- A view of a sampled axis: position, flags and doubles as they are told.
  pub view_told_lem : status_of (row_at (table_run t cs) k) ≡ Sampled →
      viewed_in (table_run t cs) k ≡ Ok (view_told (start_axis (row_at t k) (own k cs)) (acts_since (row_at t k) (own k cs)))
  view_told_lem s =
      rw (← (found_at (table_run t cs) k (still_there t k words h cs)))
      (ap view_row (row_is t k words h cs) ∙ view_seen (first_words t k words h cs) (own k cs) (status_is t k words h cs s))

  -- A view of a counter: the told place, and flags and doubles 0.
  pub view_counter_told : status_of (row_at (table_run t cs) k) ≡ Counter →
      viewed_in (table_run t cs) k ≡ Ok (counter_view (phase_of (row_at t k) (own k cs)))
  view_counter_told s =
      rw (← (found_at (table_run t cs) k (still_there t k words h cs)))
      (ap view_row (row_is t k words h cs) ∙ view_counter_seen (first_words t k words h cs) (own k cs) (status_is t k words h cs s))

  -- A speed by period: that of the told direction, age and period.
  pub speed_told : status_of (row_at (table_run t cs) k) ≡ Sampled → (rate : ℕ) →
      speed_in rate (table_run t cs) k ≡ speed_of rate (pace_told (start_axis (row_at t k) (own k cs)) (acts_since (row_at t k) (own k cs)))
  speed_told s rate =
      rw (← (found_at (table_run t cs) k (still_there t k words h cs)))
      (ap (speed_row rate) (row_is t k words h cs) ∙ speed_seen (first_words t k words h cs) (own k cs) (status_is t k words h cs s) rate)

  -- What a save makes, by what it makes of row k alone.
  saved_as_lem : (said : Saved) {b d : List ℕ} {a : Result ℕ Refusal} → SaveMakes (table_run t cs) k b d a →
      (save_row (length b) (row_since (row_at t k) (own k cs)) ≡ saved_as (length b) said)
      × (saved_in b (row_since (row_at t k) (own k cs)) ≡ written b said) →
      (a ≡ saved_as (length b) said) × (d ≡ written b said)
  saved_as_lem said {b} w seen =
      let found = found_at (table_run t cs) k (still_there t k words h cs) in (
        w.answer ∙ rw (← found) (ap (save_row (length b)) (row_is t k words h cs) ∙ seen.0),
        w.buffer ∙ rw (← found) (ap (saved_in b) (row_is t k words h cs) ∙ seen.1),
      )

  -- A save: the record of the told configuration and position.
  pub save_told : status_of (row_at (table_run t cs) k) ≡ Sampled → {b d : List ℕ} {a : Result ℕ Refusal} → SaveMakes (table_run t cs) k b d a →
      (a ≡ saved_as (length b) (saved_told (start_axis (row_at t k) (own k cs)) (acts_since (row_at t k) (own k cs))))
      × (d ≡ written b (saved_told (start_axis (row_at t k) (own k cs)) (acts_since (row_at t k) (own k cs))))
  save_told s {b} w = saved_as_lem (saved_told (start_axis (row_at t k) (own k cs)) (acts_since (row_at t k) (own k cs))) w
      (save_seen (first_words t k words h cs) (own k cs) (status_is t k words h cs s) b)

  -- A save of a counter: the record of its configuration and the told place.
  pub save_counter_told : status_of (row_at (table_run t cs) k) ≡ Counter → {b d : List ℕ} {a : Result ℕ Refusal} → SaveMakes (table_run t cs) k b d a →
      (a ≡ saved_as (length b) (counter_saved (phase_of (row_at t k) (own k cs))))
      × (d ≡ written b (counter_saved (phase_of (row_at t k) (own k cs))))
  save_counter_told s {b} w = saved_as_lem (counter_saved (phase_of (row_at t k) (own k cs))) w
      (save_counter_seen (first_words t k words h cs) (own k cs) (status_is t k words h cs s) b)
