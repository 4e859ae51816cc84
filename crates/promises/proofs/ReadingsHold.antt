-- The readings marked P hold.
use mathlib.Core.Path.{◌≡◌, refl}
use mathlib.Core.List.{map}
use Rattle.integers.specs.Integer.{mod_z}
use Rattle.position.specs.Position.{in_range, position_of}
use Rattle.reckon.specs.Widening.{good_reading, or_range, nearest_to, widened}
use Rattle.speed.specs.Rounding.{rounded, divided}
use Rattle.speed.specs.Speed.{good_count, good_speed, speed_by_count}
use Rattle.axis_sound.specs.Sound.{status_of}
use Rattle.axis_filter.specs.Lines.{level_of}
use Rattle.axis_filter.specs.Filter.{filter_line}
use Rattle.axis_decode.specs.Decode.{x1, x2, x4, table_of, entry, is_e}
use Rattle.axis_count.specs.Count.{counted_word, counted_range, counted_doubles}
use Rattle.axis_pace.specs.Pace.{older, paced_direction, paced_age, step_period, paced_period}
use Rattle.axis_index.specs.Index.{edge_by, off_turn}
use Rattle.axis_settle.specs.Lines.{place_of, line, filtered, move_to, edge_to}
use Rattle.axis_sample.specs.Step.{primed_by, outcome, step_axis}
use Rattle.axis_settle.specs.Settle.{at_edge, with_entry, settle}
use Rattle.row_sample.specs.Sample.{step_by, step_row}
use Rattle.promises.specs.Readings.{set_up, sampled_by, counted, levelled, Reading, ◌shows◌, readings}

-- Each of the twelve shows what docs/RULES.md states.
pub readings_hold : map (λ (r : Reading). r.gives) readings ≡ map (λ (r : Reading). r.stated) readings
unfolding readings ◌shows◌ set_up sampled_by counted levelled position_of in_range mod_z good_reading or_range nearest_to widened rounded divided
    good_count good_speed speed_by_count status_of place_of level_of line filter_line filtered x1 x2 x4 table_of entry is_e move_to counted_word
    counted_range counted_doubles older paced_direction paced_age step_period paced_period edge_to edge_by off_turn
    primed_by settle at_edge with_entry outcome step_axis step_by
    step_row
readings_hold = refl
