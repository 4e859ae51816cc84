-- What a sample leaves of a primed axis, part by part: docs/RULES.md, "A port sample".
use Rattle.std.specs.Prelude.{◌≡◌, true, false, cond, ◌&&◌, ◌||◌, pos}
use Rattle.position.specs.Position.{position_of}
use Rattle.axis.specs.declared.row.Axis.{Axis}
use Rattle.axis_filter.specs.Lines.{Wire}
use Rattle.axis_count.specs.Count.{counted_word, counted_range, counted_doubles}
use Rattle.axis_pace.specs.Pace.{paced_by}
use Rattle.axis_decode.specs.Decode.{worth}
use Rattle.axis_index.specs.Index.{is_backward, met, off_turn}
use Rattle.axis_settle.specs.Lines.{move_to, edge_to}
use Rattle.axis_settle.specs.Settle.{settle}
use Rattle.axis_filter.specs.declared.Line.{Line}

-- Where the lines of a primed axis become n, doubles, direction, age and period go by the entry alone.
pub record Entered (x : Axis) (n : Wire → Line) : Type 0 where
  pub doubles : (settle x n).doubles ≡ counted_doubles (move_to x n) x.doubles
  pub pace : (settle x n).pace ≡ paced_by (move_to x n) x.pace

-- Where that does not home, the entry is counted, and the check is of the position after the count where the edge is met forward, and of
-- the one before it where it is met backward.
pub record Moved (x : Axis) (n : Wire → Line) : Type 0 where
  pub word : (settle x n).word ≡ counted_word (move_to x n) x.word
  pub range : (settle x n).flags.range ≡ counted_range (move_to x n) x.word x.flags.range
  pub armed : (settle x n).flags.armed ≡ x.flags.armed
  pub homed : (settle x n).flags.homed ≡ x.flags.homed
  pub index :
      (settle x n).flags.index ≡ (x.flags.index
      || (met (edge_to x n) && x.flags.homed
      && off_turn x.config.turn (position_of (cond (is_backward (edge_to x n)) x.word (settle x n).word))))

-- Where it homes, the position is 0 after the count, or backward 0 before it and what the entry is worth after it; HOMED is set, ARMED and
-- RANGE are clear, and nothing is checked.
pub record Homed (x : Axis) (n : Wire → Line) : Type 0 where
  pub position : position_of (settle x n).word ≡ cond (is_backward (edge_to x n)) (worth (move_to x n)) (pos 0)
  pub range : (settle x n).flags.range ≡ false
  pub armed : (settle x n).flags.armed ≡ false
  pub homed : (settle x n).flags.homed ≡ true
  pub index : (settle x n).flags.index ≡ x.flags.index
