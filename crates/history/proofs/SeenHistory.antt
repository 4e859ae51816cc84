-- What a user sees of a row after any events is what its history tells: view, speed and save.
use Rattle.std.specs.Prelude.{Ok}
use mathlib.Core.Path.{◌≡◌, sym, ap, ◌∙◌}
use mathlib.Core.Logic.{inl}
use mathlib.Core.List.{List}
use Prim.Native.Nat.{ℕ}
use lib.ListN.{length}
use Rattle.position.specs.Position.{position_of}
use Rattle.position.proofs.PositionLaws.{position_word}
use Rattle.axis.specs.Row.{axis_of, Words}
use Rattle.axis.specs.declared.row.Axis.{Axis}
use Rattle.axis.specs.declared.row.Row.{Row}
use Rattle.axis_sound.specs.Sound.{status_of}
use Rattle.axis_sound.specs.declared.Status.TheVariants.{Sampled, Counter}
use Rattle.record.specs.Record.{saved_as, written}
use Rattle.row_calls.specs.Change.{changed}
use Rattle.row_view.specs.View.{view_of, view_row}
use Rattle.row_view.proofs.ViewLaws.{view_is, view_counter}
use Rattle.row_speed.specs.Speed.{speed_of, speed_row}
use Rattle.row_saving.specs.Saving.{saved_of, save_row, saved_in}
use Rattle.history_axis.specs.Tally.{position_at}
use Rattle.history_axis.specs.Told.{told_axis}
use Rattle.history_axis.proofs.ToldLaws.{position_in}
use Rattle.history_axis.proofs.StartLaws.{start_sound}
use Rattle.runs.specs.Event.{Event, row_since}
use Rattle.history.specs.Phase.{phase_of, start_axis, acts_since}
use Rattle.history.specs.Seen.{view_told, pace_told, saved_told, counter_view, counter_saved}
use Rattle.history.proofs.RowHistory.{phase_lawful, status_history, sampled_history, counter_history}
use Rattle.history.proofs.CounterHistory.{position_counter}

-- ---- a sampled row

module _ {r : Row} (words : Words r) (h : List Event) (sampled : status_of (row_since r h) ≡ Sampled) where
  first : status_of (phase_of r h).start ≡ Sampled
  first = sym (status_history words h) ∙ sampled

  axis : axis_of (row_since r h) ≡ told_axis (start_axis r h) (acts_since r h)
  axis = sampled_history words h first

  place : position_of (told_axis (start_axis r h) (acts_since r h)).word ≡ position_at (start_axis r h) (acts_since r h)
  unfolding told_axis
  place =
      position_word _
      (position_in (start_axis r h) (start_sound (phase_of r h).start first) (acts_since r h) (phase_lawful words h).legal)

  -- A view shows the told values, every one of them.
  pub view_seen : view_row (row_since r h) ≡ Ok (view_told (start_axis r h) (acts_since r h))
  unfolding told_axis view_told
  view_seen = view_is (row_since r h) (inl sampled) ∙ ap (λ (x : Axis). Ok (view_of x)) axis ∙ rw place

  -- A speed by period goes by the told pace.
  pub speed_seen : (rate : ℕ) → speed_row rate (row_since r h) ≡ speed_of rate (pace_told (start_axis r h) (acts_since r h))
  unfolding speed_row told_axis pace_told
  speed_seen rate = rw (sampled) (ap (λ (x : Axis). speed_of rate x.pace) axis)

  saved : saved_of (axis_of (row_since r h)) ≡ saved_told (start_axis r h) (acts_since r h)
  unfolding told_axis saved_told
  saved = ap saved_of axis ∙ rw place

  -- A save answers and writes what it would of the told configuration and position.
  pub save_seen : (b : List ℕ) →
      (save_row (length b) (row_since r h) ≡ saved_as (length b) (saved_told (start_axis r h) (acts_since r h)))
      × (saved_in b (row_since r h) ≡ written b (saved_told (start_axis r h) (acts_since r h)))
  unfolding save_row saved_in
  save_seen b = (rw (sampled) (ap (saved_as (length b)) saved), rw (sampled) (ap (written b) saved))

-- ---- a counter

-- A view of a counter shows its kind, the told place, and all else 0.
pub view_counter_seen : {r : Row} (words : Words r) (h : List Event) → status_of (row_since r h) ≡ Counter →
    view_row (row_since r h) ≡ Ok (counter_view (phase_of r h))
unfolding counter_view
view_counter_seen words h counter = view_counter _ counter ∙ rw (position_counter words h counter)

-- A save of it answers and writes what it would of its configuration and the told place.
pub save_counter_seen : {r : Row} (words : Words r) (h : List Event) → status_of (row_since r h) ≡ Counter → (b : List ℕ) →
    (save_row (length b) (row_since r h) ≡ saved_as (length b) (counter_saved (phase_of r h)))
    × (saved_in b (row_since r h) ≡ written b (counter_saved (phase_of r h)))
unfolding save_row saved_in counter_saved changed
save_counter_seen {r} words h counter b =
    let first = sym (status_history words h) ∙ counter in
    let axis = counter_history words h first in
    let saved : saved_of (axis_of (row_since r h)) ≡ counter_saved (phase_of r h) =
    ap saved_of axis ∙ rw (position_word (phase_of r h).place ((phase_lawful words h).placed first)) in
    (rw counter (ap (saved_as (length b)) saved), rw counter (ap (written b) saved))
