-- What the headlines ask of a run is met: by a shaft on axis 1 while axis 0 is called between, by a counter with refused calls of six
-- kinds between its readings, by a shaft with an index line that is homed both ways, by setups, restores and looks of a live axis, and by
-- speeds of both calls. Computed to their end.
use Prim.Native.Nat.{ℕ, ◌^◌, ◌+◌, ◌*◌}
use mathlib.Core.Path.{◌≡◌, refl}
use mathlib.Core.Logic.{◌≢◌}
use mathlib.Core.Bool.{Bool, false}
use mathlib.Core.List.{List, [], ◌∷◌}
use native.Mathlib.Omega.{arith}
use borrow.Author.Tests.{eqb-true}
use lib.Dec.{eqb, lit<, lit≤}
use lib.IntN.{ℤ, pos, negsuc, ◌-ℤ◌, ◌*ℤ◌}
use Rattle.refusal.specs.declared.Refusal.TheVariants.{Kind, Value, Half, Record, Occupied}
use Rattle.integers.specs.Integer.{mod_z, floor_z}
use Rattle.integers.proofs.Balance.{bal_sub, bal_scale, eq_z, floor_is}
use Rattle.position.specs.Position.{in_range, position_of, word_of}
use Rattle.reckon.specs.Widening.{good_reading, or_range, nearest_to, widened}
use Rattle.speed.specs.Rounding.{rounded, divided}
use Rattle.speed.specs.Speed.{good_count, good_speed, speed_by_count}
use Rattle.speed.specs.Sum.{Intervals, start, next}
use Rattle.speed.proofs.StatedLaws.{parts}
use Rattle.tagged.specs.Bytes.{starts}
use Rattle.tagged.specs.Field.{field_at}
use Rattle.axis.specs.Config.{good_config}
use Rattle.axis.specs.Limit.{most_axes}
use Rattle.axis.specs.declared.row.Row.{Row}
use Rattle.axis_sound.specs.Sound.{status_of}
use Rattle.axis_sound.specs.declared.Status.TheVariants.{Empty}
use Rattle.axis_filter.specs.Lines.{level_of}
use Rattle.axis_filter.specs.Filter.{filter_line}
use Rattle.axis_decode.specs.Decode.{x1, x2, x4, table_of, entry, is_e, is_p, is_m}
use Rattle.axis_count.specs.Count.{counted_word, counted_range, counted_doubles}
use Rattle.axis_pace.specs.Pace.{older, paced_direction, paced_age, step_period, paced_period}
use Rattle.axis_index.specs.Index.{edge_by, off_turn}
use Rattle.axis_settle.specs.Lines.{place_of, line, filtered, move_to, edge_to}
use Rattle.axis_settle.specs.Settle.{at_edge, with_entry, settle}
use Rattle.axis_sample.specs.Step.{primed_by, outcome, step_axis}
use Rattle.record.specs.Record.{layout_refusal, read_as}
use Rattle.row_sample.specs.Sample.{step_by, step_row}
use Rattle.row_calls.specs.Calls.{setup_row, place_row, preset_row, arm_row, acknowledge_row}
use Rattle.row_calls.specs.Change.{changed}
use Rattle.row_calls.specs.Calls.{Setup, Erase, Preset, Arm, Acknowledge}
use Rattle.row_view.specs.View.{view_row}
use Rattle.row_counter.specs.Reading.{reading_row, stored_row, read_row}
use Rattle.row_counter.specs.Counter.{UnderHalf, still, polled}
use Rattle.row_saving.specs.Saving.{restored_by, restore_row}
use Rattle.row_saving.proofs.StatedLaws.{narrow}
use Rattle.row_speed.specs.Speed.{speed_of, speed_row}
use Rattle.row_speed.proofs.StatedLaws.{paced}
use Rattle.table_rows.specs.Table.{axes_in, row_at}
use Rattle.table_rows.specs.Located.{located}
use Rattle.table_port.specs.Port.{nibble}
use Rattle.history_axis.specs.Acts.{arm}
use Rattle.history_axis.specs.Latest.{streak, latest}
use Rattle.history_axis.specs.Levels.{primed_at, since, level_at}
use Rattle.history_axis.specs.Entries.{code_at}
use Rattle.history_axis.specs.Edge.{quarter_at, forward_at, backward_at, edge_at}
use Rattle.history_axis.specs.Homing.{armed_at, homes_at}
use Rattle.history_axis.specs.Reference.{EdgeAngle, ahead, astern, homed, first, turns, homes, presets, arms, acknowledges, WholeTurns}
use Rattle.history_axis.specs.Shaft.{ShaftSample, cycle, angle_code, raw_at, watched}
use Rattle.runs.specs.Op.{view, changes, restore, reading, looks, look_row, rule_of, answer_of, row_after}
use Rattle.runs.specs.Event.{bits, asked, row_next, row_since}
use Rattle.runs.specs.Run.{Call, port, names}
use Rattle.history.specs.Phase.{after_change, after_call, after_event, phase_of}
use Rattle.history.specs.Lasting.{erases, Unerased, unheeded, heeded}
use Rattle.history.specs.Shaft.{ShaftShown}
use Rattle.history.specs.Reference.{OnShaft}
use Rattle.history.specs.Counter.{CounterReads, none, read, between, refusing}
use Rattle.history.proofs.CounterHistory.{sample_aside, look_aside}
use Rattle.promises.specs.Own.{seen_look, seen, event_of, events, own}
use Rattle.promises.specs.Day.{by_count, by_period, AnsweredOver}
use Rattle.promises.specs.Occupied.{OnFull}

-- The shaft at an angle, with Z at 0.
abbrev at : ℤ → ShaftSample
at angle = record { angle = angle; z = false }

-- A shaft that goes 0, 1, 2 and back to 1 quarter steps, seen by axis 1 of a port, the fourth bit set once, with calls on axis 0 between.
pub shaft_met :
    ShaftShown (own 1 (port 0 ∷ names 0 (changes Erase) ∷ port 16 ∷ port 176 ∷ names 0 (looks view) ∷ port 31 ∷ [])) (at (pos 0))
    (at (pos 1) ∷ at (pos 2) ∷ at (pos 1) ∷ [])
unfolding events event_of nibble watched raw_at angle_code cycle mod_z
shaft_met = record { nibbles = 1 ∷ 11 ∷ 1 ∷ 0 ∷ []; samples = refl; levels = refl }

-- A counter of 8 bits at 250.
abbrev counter : Row
counter = record { w0 = 2 ^ 62 + 250; w1 = 8 + 8 * 2 ^ 8; w2 = 0; w3 = 0 }

-- Readings at 259 and at 300, and between them a view, a sample, an arm, readings that are VALUE and HALF, a setup over it, a preset
-- outside its limits and the restore of no record.
pub counter_met :
    CounterReads counter 8
    (asked (reading 44) ∷ asked (restore []) ∷ asked (changes (Preset (pos (2 ^ 62)))) ∷ asked (changes (Setup 8 0 8 0))
    ∷ asked (reading 131) ∷ asked (reading 256) ∷ asked (changes Arm) ∷ bits 7 ∷ asked (looks view) ∷ asked (reading 3) ∷ [])
    (pos 300 ∷ pos 259 ∷ [])
unfolding mod_z row_since row_next row_after rule_of answer_of look_row read_row stored_row reading_row status_of widened good_reading in_range
    position_of nearest_to or_range changed word_of view_row setup_row good_config preset_row place_row arm_row restore_row restored_by read_as starts
    layout_refusal field_at step_row step_by
counter_met =
    read (pos 300)
    (refusing (restore []) Record refl
    (refusing (changes (Preset (pos (2 ^ 62)))) Value refl
    (refusing (changes (Setup 8 0 8 0)) Occupied refl
    (refusing (reading 131) Half refl
    (refusing (reading 256) Value refl
    (refusing (changes Arm) Kind refl
    (between (bits 7) (sample_aside 7)
    (between (asked (looks view)) (look_aside view)
    (read (pos 259) none)))))))))

-- The shaft stays in the range and moves less than half a turn, 128, from 250 to 259 and on to 300.
pub half_met : UnderHalf 8 (pos 250) (pos 300 ∷ pos 259 ∷ [])
unfolding in_range
half_met = polled (pos 300) (pos 259 ∷ []) refl (lit< tt) (polled (pos 259) [] refl (lit< tt) still)

-- ---- a shaft with an index line

-- Z is 1 at one quarter step of each turn of four.
abbrev mark : ℤ → Bool
mark angle = eqb (mod_z angle 4) 0

-- Two axes: one empty, and one set up as x4 at depth 1 with four counts per turn.
abbrev pair : List ℕ
pair = 0 ∷ 0 ∷ 0 ∷ 0 ∷ (2 ^ 62) ∷ (4 + 2 ^ 4) ∷ 0 ∷ 4 ∷ []

-- Axis 1 is armed, and its shaft goes from angle 1 back to 0, where Z rises and nothing is done, and to -1, which homes; forward to 0,
-- which is checked, and to 1; armed again and preset it goes back and is homed over the same edge; armed once more it is homed there
-- forward. Between are an erase of axis 0, a setup over axis 1, a view and an acknowledge.
abbrev trip : List Call
trip =
    names 1 (changes Arm) ∷ port 16 ∷ port 64 ∷ names 0 (changes Erase) ∷ port 32 ∷ names 1 (changes (Setup 4 1 0 4)) ∷ port 64
    ∷ names 1 (looks view) ∷ port 16 ∷ names 1 (changes Acknowledge) ∷ names 1 (changes Arm) ∷ names 1 (changes (Preset (pos 7)))
    ∷ port 64 ∷ port 32 ∷ names 1 (changes Arm) ∷ port 64 ∷ []

pub edge_met_lem : OnShaft mark (row_at pair 1) (own 1 trip) (pos 0) (homed (pos 0))
unfolding mod_z events event_of seen seen_look nibble row_at row_since row_next row_after rule_of answer_of look_row status_of changed setup_row
    good_config preset_row place_row arm_row acknowledge_row view_row step_row step_by step_axis outcome primed_by settle at_edge with_entry
    filtered line place_of level_of filter_line move_to edge_to edge_by entry table_of x1 x2 x4 is_e counted_word counted_range counted_doubles
    older paced_direction paced_age step_period paced_period off_turn position_of word_of in_range phase_of after_event after_call after_change
    homes_at armed_at edge_at forward_at backward_at primed_at quarter_at code_at level_at since latest streak is_p is_m raw_at angle_code cycle
edge_met_lem = record {
  live = refl;
  kind = refl;
  depth = refl;
  follows =
      let once = turns (first (arm ∷ []) (pos 1) refl) (pos 0) (lit≤ tt) refl in
      let home = homes once (negsuc 0) refl (pos 0) (astern refl refl) in
      let over = turns (turns home (pos 0) (lit≤ tt) refl) (pos 1) (lit≤ tt) refl in
      let back = turns (presets (arms (acknowledges over)) (pos 7)) (pos 0) (lit≤ tt) refl in
      let again = homes back (negsuc 0) refl (pos 0) (astern refl refl) in
      homes (arms again) (pos 0) refl (pos 0) (ahead refl refl);
}

-- Every edge of it lies a whole number of turns from the one at angle 0.
pub whole_met : (e : ℤ) → EdgeAngle mark e → WholeTurns 4 e (pos 0)
whole_met e k = record {
  turns = floor_z e 4;
  apart = eq_z (e -ℤ pos 0) (floor_z e 4 *ℤ pos 4)
      (omega (arith, bal_sub e (pos 0), bal_scale (floor_z e 4) 4, floor_is e 4 (lit< tt), eqb-true (mod_z e 4) 0 k.at));
}

-- ---- setups, restores and looks of a live axis

-- Samples, a preset, an arm, an acknowledge and a reading of axis 1, and between them a setup, the restore of a good record, a view and an
-- erase of axis 0: axis 1 is not erased, and heeds all but these.
abbrev mixed : List Call
mixed =
    port 16 ∷ names 1 (changes (Setup 4 1 0 4)) ∷ port 48 ∷ names 0 (changes Erase) ∷ names 1 (restore narrow)
    ∷ names 1 (changes (Preset (pos 7))) ∷ names 1 (looks view) ∷ names 1 (changes Arm) ∷ names 1 (changes Acknowledge)
    ∷ names 1 (reading 3) ∷ []

pub survives_met : Unerased (own 1 mixed)
    × (heeded (own 1 mixed)
    ≡ asked (reading 3) ∷ asked (changes Acknowledge) ∷ asked (changes Arm) ∷ asked (changes (Preset (pos 7))) ∷ bits 3 ∷ bits 1 ∷ [])
unfolding events event_of seen seen_look nibble erases unheeded heeded
survives_met = ((refl, (refl, (refl, (refl, (refl, (refl, (refl, (refl, (refl, tt))))))))), refl)

-- A setup, the restore of a good record and a view of axis 1, which is not empty.
pub full_met : OnFull pair (names 1 (changes (Setup 8 0 8 0)) ∷ names 1 (restore narrow) ∷ names 1 (looks view) ∷ [])
unfolding unheeded status_of row_at
full_met =
    let full : status_of (row_at pair 1) ≢ Empty = λ e. let z : ◌≡◌ {A = ℕ} 0 1 = cc in omega arith in
    (refl, full, (refl, full, (refl, full, tt)))

-- ---- speeds

-- A table of one row.
abbrev alone : Row → List ℕ
alone r = r.w0 ∷ r.w1 ∷ r.w2 ∷ r.w3 ∷ []

-- At rate 1 with the divisor 3: by count of one count and of one back, and by period forward, by the period, and back, by the age.
pub day_met :
    Intervals (AnsweredOver 3 1) (pos 1 ∷ negsuc 0 ∷ pos 1 ∷ negsuc 0 ∷ [])
    (parts (pos 333) (pos 1) 3 ∷ parts (negsuc 332) (negsuc 0) 3 ∷ parts (pos 333) (pos 1) 3 ∷ parts (negsuc 332) (negsuc 0) 3 ∷ [])
unfolding rounded divided good_count good_speed speed_by_count most_axes status_of speed_of speed_row axes_in row_at located
day_met =
    next _ _ (by_count 3 refl, refl)
    (next _ _ (by_count 3 refl, refl)
    (next _ _ (by_period (alone (paced 1 0 3)) 0 refl, refl)
    (next _ _ (by_period (alone (paced 2 3 1)) 0 refl, refl) start)))
