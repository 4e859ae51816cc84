-- What a user sees of an axis, as its history tells it: docs/RULES.md, "Calls that name one axis", View and Speed by period, and "The saved
-- record".
use Rattle.std.specs.Prelude.{false, List}
use Rattle.axis.specs.Kind.{COUNTER}
use Rattle.axis.specs.Row.{axis_of}
use Rattle.axis.specs.declared.row.Axis.{Axis}
use Rattle.axis.specs.declared.row.Pace.{Pace}
use Rattle.record_axis.specs.declared.saved.Saved.{Saved}
use Rattle.row_view.specs.declared.answer.View.{View}
use Rattle.history_axis.specs.Acts.{Act}
use Rattle.history_axis.specs.Levels.{primed_at}
use Rattle.history_axis.specs.Entries.{entries}
use Rattle.history_axis.specs.Homing.{armed_at, homed_at}
use Rattle.history_axis.specs.Tally.{position_at, range_at, doubles_at}
use Rattle.history_axis.specs.Pace.{pace_of}
use Rattle.history_axis.specs.Index.{index_at}
use Rattle.history.specs.Phase.{Phase}

-- The view of a sampled axis that started as x, after the acts h.
unfoldable pub view_told : Axis → List Act → View
view_told x h = record {
  kind = x.config.kind;
  position = position_at x h;
  primed = primed_at x h;
  armed = armed_at x h;
  homed = homed_at x h;
  range = range_at x h;
  index = index_at x h;
  doubles = doubles_at x h;
}

-- The pace that its speed goes by.
unfoldable pub pace_told : Axis → List Act → Pace
pace_told x h = pace_of x.pace (entries x h)

-- What a save of it saves.
unfoldable pub saved_told : Axis → List Act → Saved
saved_told x h = record { config = x.config; position = position_at x h }

-- The view of a counter in a phase: its kind, its place, and all else 0.
unfoldable pub counter_view : Phase → View
counter_view p = record {
  kind = COUNTER;
  position = p.place;
  primed = false;
  armed = false;
  homed = false;
  range = false;
  index = false;
  doubles = 0;
}

-- What a save of it saves.
unfoldable pub counter_saved : Phase → Saved
counter_saved p = record { config = (axis_of p.start).config; position = p.place }
