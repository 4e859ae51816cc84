-- The laws of the row that a phase tells: its status, its words and its axis.
use mathlib.Core.Path.{◌≡◌, refl, sym, ◌∙◌, ap}
use lib.IntN.{ℤ}
use Rattle.position.specs.Position.{word_of}
use Rattle.position.proofs.PositionLaws.{word_holds}
use Rattle.axis.specs.Row.{axis_of, row_of, empty_row, Words}
use Rattle.axis_sound.specs.Sound.{status_of, CounterAxis}
use Rattle.axis.specs.declared.row.Axis.{Axis}
use Rattle.axis.specs.declared.row.Row.{Row}
use Rattle.axis_sound.specs.declared.Status.{Status}
use Rattle.axis_sound.specs.declared.Status.TheVariants.{Empty, Sampled, Counter, Broken}
use Rattle.axis_sound.proofs.SoundLaws.{sampled_gives, counter_gives}
use Rattle.row_calls.specs.Change.{changed, preset_axis, Holds}
use Rattle.row_counter.specs.Reading.{read_axis}
use Rattle.row_calls.proofs.ChangeLaws.{sampled_holds, counter_holds}
use Rattle.row_counter.proofs.ReadingLaws.{read_at, read_kept}
use Rattle.row_calls.proofs.SetupLaws.{config_holds, erase_makes}
use Rattle.history_axis.specs.Told.{told_axis}
use Rattle.history.specs.Phase.{Phase, told_by, told_row}
use Rattle.history.specs.Lawful.{Beginning, given, erased, made, Lawful}
use Rattle.history_axis.proofs.SampledLaws.{keep_told}

-- A preset of a counter does what a reading does: the flags that it clears are clear.
pub counter_preset : {x : Axis} → CounterAxis x → (z : ℤ) → preset_axis z x ≡ read_axis z x
unfolding changed
counter_preset {x} c z = ap (preset_axis z) c.rest ∙ sym (read_at x z c)

-- The words that a phase began with.
pub start_words : {r s : Row} → Words r → Beginning r s → Words s
start_words words given = words
start_words words erased = (erase_makes empty_row).1.words
start_words words (made c z good within) = (config_holds c (word_of z) good (word_holds z within)).words

module _ {r : Row} {p : Phase} (l : Lawful r p) where
  abbrev x : Axis
  x = axis_of p.start

  sampled_row : status_of p.start ≡ Sampled → Holds (row_of (told_axis x p.acts)) Sampled (told_axis x p.acts)
  sampled_row e = sampled_holds (told_axis x p.acts) (keep_told x (sampled_gives p.start e) p.acts l.legal)

  counter_row : status_of p.start ≡ Counter → Holds (row_of (read_axis p.place x)) Counter (read_axis p.place x)
  counter_row e = counter_holds (read_axis p.place x) (read_kept x p.place (l.placed e) (counter_gives p.start e))

  -- Its status is that of the row that the phase began with, and its words are words of 64 bits.
  pub told_holds : Words r → Holds (told_row p) (status_of p.start) (axis_of (told_row p))
  unfolding told_row told_by
  told_holds words = go (status_of p.start) refl
    where
      go : (s : Status) → status_of p.start ≡ s → Holds (told_by s p) s (axis_of (told_by s p))
      go Empty e = record { status = e; axis = refl; words = start_words words l.began }
      go Sampled e = let q = sampled_row e in record { status = q.status; axis = refl; words = q.words }
      go Counter e = let q = counter_row e in record { status = q.status; axis = refl; words = q.words }
      go Broken e = record { status = e; axis = refl; words = start_words words l.began }

  -- Its axis is the one that the acts tell.
  pub axis_sampled : status_of p.start ≡ Sampled → axis_of (told_row p) ≡ told_axis (axis_of p.start) p.acts
  unfolding told_row told_by
  axis_sampled e = rw e (sampled_row e).axis

  -- Its axis is the counter at the phase's place.
  pub axis_counter : status_of p.start ≡ Counter → axis_of (told_row p) ≡ read_axis p.place (axis_of p.start)
  unfolding told_row told_by
  axis_counter e = rw e (counter_row e).axis

  -- Its configuration is that of the row that the phase began with.
  pub told_configured : (axis_of (told_row p)).config ≡ (axis_of p.start).config
  unfolding told_row told_by told_axis changed
  told_configured = go (status_of p.start) refl
    where
      go : (s : Status) → status_of p.start ≡ s → (axis_of (told_by s p)).config ≡ (axis_of p.start).config
      go Empty e = refl
      go Sampled e = ap (λ (a : Axis). a.config) (sampled_row e).axis
      go Counter e = ap (λ (a : Axis). a.config) (counter_row e).axis
      go Broken e = refl
