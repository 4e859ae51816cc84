-- What an accepted call makes of an axis: docs/RULES.md, "Calls that name one axis".
use Rattle.std.specs.Prelude.{ℕ, ◌≡◌, true, false, ℤ}
use Rattle.position.specs.Position.{word_of}
use Rattle.axis.specs.Flags.{with_armed, with_homed, with_range, with_index}
use Rattle.axis.specs.Row.{axis_of, Words}
use Rattle.axis_sound.specs.Sound.{status_of}
use Rattle.axis.specs.declared.row.Axis.{Axis}
use Rattle.axis.specs.declared.row.Flags.{Flags}
use Rattle.axis.specs.declared.row.Row.{Row}
use Rattle.axis_sound.specs.declared.Status.{Status}

-- An axis with another word, other flags and other doubles; all else stays.
unfoldable pub changed : Axis → ℕ → Flags → ℕ → Axis
changed x word flags doubles = record {
  word = word;
  config = x.config;
  flags = flags;
  levels = x.levels;
  runs = x.runs;
  doubles = doubles;
  pace = x.pace;
}

-- Preset sets the position and clears RANGE and HOMED.
abbrev pub preset_axis : ℤ → Axis → Axis
preset_axis p x = changed x (word_of p) (with_range false (with_homed false x.flags)) x.doubles

-- Arm sets ARMED and clears HOMED.
abbrev pub arm_axis : Axis → Axis
arm_axis x = changed x x.word (with_armed true (with_homed false x.flags)) x.doubles

-- Acknowledge sets doubles to 0 and clears INDEX.
abbrev pub acknowledge_axis : Axis → Axis
acknowledge_axis x = changed x x.word (with_index false x.flags) 0

-- A row of four 64-bit words that has a status and holds an axis.
pub record Holds (q : Row) (s : Status) (a : Axis) : Type 0 where
  pub status : status_of q ≡ s
  pub axis : axis_of q ≡ a
  pub words : Words q
