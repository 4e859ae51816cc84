-- What docs/RULES.md states of the trace program, computed to its end.
use Prim.Native.Nat.{ℕ, min}
use mathlib.Core.Path.{◌≡◌, refl}
use mathlib.Core.List.{List, [], ◌∷◌, map}
use lib.IntN.{pos, negsuc}
use lib.ListN.{length}
use Rattle.position.specs.Position.{position_of, in_range}
use Rattle.axis.specs.Limit.{most_axes}
use Rattle.axis.specs.Config.{good_config}
use Rattle.axis_sound.specs.Sound.{status_of}
use Rattle.axis_filter.specs.Lines.{level_of}
use Rattle.axis_filter.specs.Filter.{filter_line}
use Rattle.axis_decode.specs.Decode.{x4, table_of, entry, is_e}
use Rattle.axis_count.specs.Count.{counted_word, counted_range, counted_doubles}
use Rattle.axis_pace.specs.Pace.{older, paced_direction, paced_age, step_period, paced_period}
use Rattle.axis_index.specs.Index.{edge_by, off_turn}
use Rattle.axis_settle.specs.Lines.{place_of, line, filtered, move_to, edge_to}
use Rattle.axis_settle.specs.Settle.{at_edge, with_entry, settle}
use Rattle.axis_sample.specs.Step.{primed_by, outcome, step_axis}
use Rattle.row_sample.specs.Sample.{step_by, step_row}
use Rattle.row_calls.specs.Calls.{setup_row}
use Rattle.table_rows.specs.Table.{axes_in, row_at, set_row}
use Rattle.table_rows.specs.Located.{located}
use Rattle.table_change.specs.Making.{table_after}
use Rattle.trace_axis.specs.Trace.{started, fed_with, stepped_by, input_report}
use Rattle.trace_axis.proofs.TraceLaws.{samples_rule}

-- A trace starts at position 0, kind 4, depth 1 and nothing else, before its first byte.
pub start_words : started ≡ record { words = 4611686018427387904 ∷ 20 ∷ 0 ∷ 0 ∷ []; samples = 0 }
unfolding started table_after located setup_row good_config axes_in most_axes row_at set_row
start_words = refl

-- Of a whole input the first 4,294,967,295 bytes are looked at.
pub limit_stated : (bs : List ℕ) → (fed_with started bs).samples ≡ min 4294967295 (length bs)
limit_stated = samples_rule

-- A roll forward, a roll back with the other four bits set, and a double step come to these reports.
pub inputs_told : map input_report ((0 ∷ 1 ∷ 3 ∷ 2 ∷ 0 ∷ []) ∷ (248 ∷ 250 ∷ 251 ∷ 249 ∷ 248 ∷ []) ∷ (0 ∷ 3 ∷ 2 ∷ []) ∷ [])
    ≡ record { samples = 5; position = pos 4; doubles = 0 } ∷ record { samples = 5; position = negsuc 3; doubles = 0 }
    ∷ record { samples = 3; position = pos 1; doubles = 1 } ∷ []
unfolding position_of in_range status_of place_of level_of line filter_line filtered x4 table_of entry is_e move_to counted_word counted_range
    counted_doubles older paced_direction paced_age step_period paced_period edge_to edge_by off_turn
    primed_by settle at_edge with_entry outcome step_axis step_by step_row
    stepped_by
inputs_told = refl
