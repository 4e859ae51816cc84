-- A primed axis whose filtered lines are known: docs/RULES.md, "A port sample".
use Rattle.std.specs.Prelude.{◌^◌, Bool, true, cond, not, ◌&&◌, ◌||◌, [], ◌∷◌}
use Rattle.position.specs.Position.{position_of}
use Rattle.axis.specs.declared.row.Axis.{Axis}
use Rattle.axis_filter.specs.Lines.{Wire, A, B, Z}
use Rattle.axis_count.specs.Count.{counted_word, counted_range, counted_doubles}
use Rattle.axis_pace.specs.Pace.{paced_by}
use Rattle.axis_decode.specs.declared.Move.{Move}
use Rattle.axis_index.specs.Index.{is_forward, is_backward, off_turn}
use Rattle.axis_settle.specs.Lines.{move_to, edge_to}
use Rattle.axis_filter.specs.declared.Line.{Line}

-- An axis at a reference edge, or at none: at one, an axis that is armed is homed, and one that is not armed, but homed, is checked.
unfoldable pub at_edge : Bool → Axis → Axis
at_edge edge x =
    let f = x.flags in
    let homes = edge && f.armed in
    record {
      word = cond homes (2 ^ 62) x.word;
      config = x.config;
      flags = record {
        primed = f.primed;
        armed = not edge && f.armed;
        homed = f.homed || homes;
        range = f.range && not homes;
        index = f.index || (edge && not f.armed && f.homed && off_turn x.config.turn (position_of x.word));
      };
      levels = x.levels;
      runs = x.runs;
      doubles = x.doubles;
      pace = x.pace;
    }

-- An axis whose entry is m and whose lines become n: count, age and period.
unfoldable pub with_entry : Move → (Wire → Line) → Axis → Axis
with_entry m n x =
    let f = x.flags in
    record {
      word = counted_word m x.word;
      config = x.config;
      flags = record { primed = true; armed = f.armed; homed = f.homed; range = counted_range m x.word f.range; index = f.index };
      levels = (n A).level ∷ (n B).level ∷ (n Z).level ∷ [];
      runs = (n A).run ∷ (n B).run ∷ (n Z).run ∷ [];
      doubles = counted_doubles m x.doubles;
      pace = paced_by m x.pace;
    }

-- A primed axis whose lines become n: a reference edge that is met backward acts before the count, and one that is met forward after it.
unfoldable pub settle : Axis → (Wire → Line) → Axis
settle x n = let e = edge_to x n in at_edge (is_forward e) (with_entry (move_to x n) n (at_edge (is_backward e) x))
