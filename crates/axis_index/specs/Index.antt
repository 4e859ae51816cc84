-- The index line: docs/RULES.md, "A port sample", Index.
use Rattle.std.specs.Prelude.{ℕ, ◌%◌, Bool, true, false, cond, not, ◌&&◌, eqb, ltb, ℤ, nat_abs, Option, None, Some, is_some}
use Rattle.axis_decode.specs.declared.Move.{Move}
use Rattle.axis_decode.specs.declared.Move.TheVariants.{Still, Forward, Back, Double}
use Rattle.axis_index.specs.declared.Way.{Way}
use Rattle.axis_index.specs.declared.Way.TheVariants.{Forward as MetForward, Backward as MetBackward}

-- Filtered Z goes from 0 to 1.
abbrev pub rises_to : Bool → Bool → Bool
rises_to old new = not old && new

-- Filtered Z goes from 1 to 0.
abbrev pub falls_to : Bool → Bool → Bool
falls_to old new = old && not new

-- The reference edge of a sample, by x4's entry and Z's old and new level: a rise on +, which is met forward, and a fall on -, which is
-- met backward; none where there is no step, and none on E.
unfoldable pub edge_by : Move → Bool → Bool → Option Way
edge_by Still old new = None
edge_by Forward old new = cond (rises_to old new) (Some MetForward) None
edge_by Back old new = cond (falls_to old new) (Some MetBackward) None
edge_by Double old new = None

-- Whether an edge is one that is met forward.
abbrev pub is_forward : Option Way → Bool
is_forward None = false
is_forward (Some MetForward) = true
is_forward (Some MetBackward) = false

-- Whether it is one that is met backward.
abbrev pub is_backward : Option Way → Bool
is_backward None = false
is_backward (Some MetForward) = false
is_backward (Some MetBackward) = true

-- Whether there is one.
abbrev pub met : Option Way → Bool
met e = is_some e

-- The position is no multiple of the counts per turn, which are above 0.
unfoldable pub off_turn : ℕ → ℤ → Bool
off_turn turn p = ltb 0 turn && not (eqb (nat_abs p % turn) 0)
