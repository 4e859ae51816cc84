-- What a call answers on a row that it takes, line by line: docs/RULES.md, "Calls that name one axis", "The saved record" and "Reasons for
-- saying no".
use Rattle.std.specs.Prelude.{ℕ, ◌*◌, ◌≤◌, ◌<◌, max, ◌≡◌, true, false, cond, List, ℤ, pos, ◌*ℤ◌, length, Result, Ok, Err}
use Rattle.refusal.specs.declared.Refusal.TheVariants.{Value, NoPeriod, Room}
use Rattle.position.specs.Position.{in_range, position_of}
use Rattle.reckon.specs.Nearest.{Verdict}
use Rattle.speed.specs.Rounding.{Divides}
use Rattle.speed.specs.Speed.{good_rate}
use Rattle.speed.specs.declared.Quotient.{Quotient}
use Rattle.axis.specs.Kind.{counter_kind}
use Rattle.axis.specs.Config.{good_config}
use Rattle.axis.specs.Row.{axis_of}
use Rattle.axis.specs.declared.row.Axis.{Axis}
use Rattle.axis.specs.declared.row.Row.{Row}
use Rattle.record.specs.Order.{Judged}
use Rattle.record.specs.Record.{record_of}
use Rattle.row_calls.specs.Calls.{Setup, Erase, Preset, Arm, Acknowledge}
use Rattle.row_view.specs.View.{view_of}
use Rattle.row_speed.specs.Speed.{sign_of}
use Rattle.row_saving.specs.Saving.{saved_of}
use Rattle.runs.specs.Told.{Told, refused, done, shown, quotient, wrote, told_number}
use Rattle.runs.specs.Op.{Op, view, speed, save, changes, restore, reading, looks}
use Rattle.refusal.specs.declared.Refusal.{Refusal}
use Rattle.record_axis.specs.declared.saved.Saved.{Saved}

-- What a restore tells by what the record's reader says, on a row that it takes.
unfoldable pub told_read : Result Saved Refusal → Told
told_read (Ok s) = done
told_read (Err e) = refused e

-- The bytes of an axis's record: 27 for a counter, else 34.
unfoldable pub record_size : Axis → ℕ
record_size x = cond (counter_kind x.config.kind) 27 34

-- The answer on a row: VALUE, HALF, RANGE, NO PERIOD, ROOM, LAYOUT or RECORD where a line says so, and else what the call is done with.
pub data Answers (r : Row) : Op → Told → Type 0 where
  set_up : {k d w n : ℕ} → good_config k d w n ≡ true → Answers r (changes (Setup k d w n)) done
  no_configuration : {k d w n : ℕ} → good_config k d w n ≡ false → Answers r (changes (Setup k d w n)) (refused Value)
  erased : Answers r (changes Erase) done
  placed : {p : ℤ} → in_range p ≡ true → Answers r (changes (Preset p)) done
  no_position : {p : ℤ} → in_range p ≡ false → Answers r (changes (Preset p)) (refused Value)
  armed : Answers r (changes Arm) done
  acknowledged : Answers r (changes Acknowledge) done
  restored : {bytes : List ℕ} {a : Result Saved Refusal} → Judged bytes a → Answers r (restore bytes) (told_read a)
  widened : {x : ℕ} {a : Result ℤ Refusal} → Verdict (axis_of r).config.width (position_of r.w0) x a → Answers r (reading x) (told_number a)
  viewed : Answers r (looks view) (shown (view_of (axis_of r)))
  no_rate : {rate : ℕ} → good_rate rate ≡ false → Answers r (looks (speed rate)) (refused Value)
  no_period : {rate : ℕ} → good_rate rate ≡ true → (axis_of r).pace.period ≡ 0 → Answers r (looks (speed rate)) (refused NoPeriod)
  sped : {rate : ℕ} {q : Quotient} → good_rate rate ≡ true → 0 < (axis_of r).pace.period →
      Divides (sign_of (axis_of r).pace.direction *ℤ pos (1000 * rate)) (max (axis_of r).pace.period (axis_of r).pace.age) q →
      Answers r (looks (speed rate)) (quotient q)
  no_room : {b : List ℕ} → length b < record_size (axis_of r) → Answers r (looks (save b)) (refused Room)
  saved : {b : List ℕ} → record_size (axis_of r) ≤ length b →
      Answers r (looks (save b)) (wrote (record_size (axis_of r)) (record_of (saved_of (axis_of r))))
