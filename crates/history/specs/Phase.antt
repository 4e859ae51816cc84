-- What the events of one axis tell, from any four words: docs/RULES.md, "One row, four words", "A port sample"
-- and "Calls that name one axis". A phase begins with every setup, erase and restore that is accepted, and
-- within a phase the configuration stays. A row is empty where its phase began with an empty one. Events have the newest first.
use Rattle.std.specs.Prelude.{ℕ, true, false, cond, List, [], ◌∷◌, ℤ, Result, Ok, Err}
use Rattle.position.specs.Position.{in_range, position_of}
use Rattle.reckon.specs.Widening.{widened}
use Rattle.axis.specs.Config.{good_config}
use Rattle.axis.specs.Row.{axis_of, row_of, empty_row, fresh}
use Rattle.axis_sound.specs.Sound.{is_empty, status_of}
use Rattle.axis.specs.declared.row.Axis.{Axis}
use Rattle.axis.specs.declared.row.Row.{Row}
use Rattle.axis_sound.specs.declared.Status.{Status}
use Rattle.axis_sound.specs.declared.Status.TheVariants.{Empty, Sampled, Counter, Broken}
use Rattle.axis_filter.specs.Lines.{raw_of}
use Rattle.record.specs.Record.{read_as}
use Rattle.row_counter.specs.Reading.{read_axis}
use Rattle.row_calls.specs.Calls.{config_of}
use Rattle.row_saving.specs.Saving.{said_row}
use Rattle.runs.specs.Told.{Marks, Told, marks}
use Rattle.row_calls.specs.Calls.{Change}
use Rattle.row_calls.specs.Calls.{Setup, Erase, Preset, Arm, Acknowledge}
use Rattle.runs.specs.Op.{Op, changes, restore, reading, looks, answer_of}
use Rattle.runs.specs.Event.{Event, bits, asked}
use Rattle.history_axis.specs.Acts.{Act, sampled}
use Rattle.history_axis.specs.Acts.{preset as placed, arm as armed, acknowledge as acknowledged}
use Rattle.history_axis.specs.Entries.{double_at}
use Rattle.history_axis.specs.Edge.{edge_at}
use Rattle.history_axis.specs.Told.{told_axis}
use Rattle.refusal.specs.declared.Refusal.{Refusal}
use Rattle.record_axis.specs.declared.saved.Saved.{Saved}

-- A phase: the row that it began with, what has happened to a sampled axis since, newest first, and where a counter is.
pub record Phase : Type 0 where
  pub start : Row
  pub acts : List Act
  pub place : ℤ

-- A phase that begins with a row.
abbrev pub begun : Row → Phase
begun r = record { start = r; acts = []; place = position_of r.w0 }

-- A phase in which one more thing has happened to a sampled axis.
abbrev pub acted : Phase → Act → Phase
acted p a = record { start = p.start; acts = a ∷ p.acts; place = p.place }

-- A phase in which a counter has got to a position.
abbrev pub moved : Phase → ℤ → Phase
moved p z = record { start = p.start; acts = p.acts; place = z }

-- What happens to a sampled row, to a counter, and to no other: an empty or a broken row stays until a phase begins.
abbrev pub by_sort : Phase → Phase → Status → Phase → Phase
by_sort sampledOne counterOne Sampled p = sampledOne
by_sort sampledOne counterOne Counter p = counterOne
by_sort sampledOne counterOne Empty p = p
by_sort sampledOne counterOne Broken p = p

-- A reading moves a counter where it is accepted.
abbrev pub read_to : Phase → Result ℤ Refusal → Phase
read_to p (Ok z) = moved p z
read_to p (Err e) = p

-- What begins a phase in an empty row alone: in any other it is refused, and changes nothing.
abbrev pub in_empty : Phase → Phase → Phase
in_empty next p = cond (is_empty p.start) next p

-- A record begins a phase where it is accepted, in an empty row.
abbrev pub restored_to : Phase → Result Saved Refusal → Phase
restored_to p (Ok s) = in_empty (begun (said_row s)) p
restored_to p (Err e) = p

-- The phase after a change; one that is refused changes nothing.
unfoldable pub after_change : Phase → Change → Phase
after_change p (Setup kind depth width turn) =
    in_empty (cond (good_config kind depth width turn) (begun (row_of (fresh (config_of kind depth width turn)))) p) p
after_change p Erase = begun empty_row
after_change p (Preset z) = cond (in_range z) (by_sort (acted p (placed z)) (moved p z) (status_of p.start) p) p
after_change p Arm = by_sort (acted p armed) p (status_of p.start) p
after_change p Acknowledge = by_sort (acted p acknowledged) p (status_of p.start) p

-- The phase after a call; one that only looks changes nothing.
unfoldable pub after_call : Phase → Op → Phase
after_call p (changes c) = after_change p c
after_call p (restore bytes) = restored_to p (read_as bytes)
after_call p (reading x) = by_sort p (read_to p (widened (axis_of p.start).config.width p.place x)) (status_of p.start) p
after_call p (looks l) = p

-- The phase after an event.
unfoldable pub after_event : Phase → Event → Phase
after_event p (bits n) = by_sort (acted p (sampled (raw_of n))) p (status_of p.start) p
after_event p (asked o) = after_call p o

-- The phase that a row is in after events.
unfoldable pub phase_of : Row → List Event → Phase
phase_of r [] = begun r
phase_of r (e ∷ h) = after_event (phase_of r h) e

-- The axis that the phase after events began with.
abbrev pub start_axis : Row → List Event → Axis
start_axis r h = axis_of (phase_of r h).start

-- What has happened to it since.
abbrev pub acts_since : Row → List Event → List Act
acts_since r h = (phase_of r h).acts

-- The row that a phase tells, by what it began with.
unfoldable pub told_by : Status → Phase → Row
told_by Sampled p = row_of (told_axis (axis_of p.start) p.acts)
told_by Counter p = row_of (read_axis p.place (axis_of p.start))
told_by Empty p = p.start
told_by Broken p = p.start

-- The row that a phase tells.
unfoldable pub told_row : Phase → Row
told_row p = told_by (status_of p.start) p

-- The bits that a phase tells of a sample: E and the reference edge of a sampled axis, broken for a broken row, none for any other.
unfoldable pub marked_by : Status → Phase → ℕ → Marks
marked_by Sampled p n = record {
  double = double_at (axis_of p.start) (raw_of n) p.acts;
  index = edge_at (axis_of p.start) (raw_of n) p.acts;
  broken = false;
}
marked_by Counter p n = record { double = false; index = false; broken = false }
marked_by Empty p n = record { double = false; index = false; broken = false }
marked_by Broken p n = record { double = false; index = false; broken = true }

-- The bits that a phase tells of a sample.
unfoldable pub told_marks : Phase → ℕ → Marks
told_marks p n = marked_by (status_of p.start) p n

-- What a phase tells of an event: the bits of a sample, the answer of a call.
unfoldable pub told_at : Phase → Event → Told
told_at p (bits n) = marks (told_marks p n)
told_at p (asked o) = answer_of o (told_row p)
