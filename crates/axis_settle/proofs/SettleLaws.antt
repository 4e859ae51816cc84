-- The laws of a primed axis whose filtered lines are known: docs/RULES.md, "A port sample".
use mathlib.Core.Path.{◌≡◌, refl, sym, ap, ◌∙◌}
use mathlib.Core.Bool.{Bool, true, false, ◌&&◌, and-true, and-false, or-true, or-false, true≢false}
use mathlib.Core.List.{List}
use lib.IntN.{◌+ℤ◌}
use lib.ListN.{get_or}
use Rattle.position.specs.Position.{position_of}
use Rattle.axis.specs.Kind.{X4}
use Rattle.axis.specs.declared.row.Axis.{Axis}
use Rattle.axis_filter.specs.Lines.{Wire, A, B, Z}
use Rattle.axis_decode.specs.Decode.{code, entry, worth}
use Rattle.axis_index.specs.Index.{edge_by, met}
use Rattle.axis_index.specs.declared.Way.{Way}
use Rattle.axis_index.specs.declared.Way.TheVariants.{Forward as MetForward, Backward as MetBackward}
use Rattle.std.specs.Prelude.{Option, None, Some}
use Rattle.axis_settle.specs.Lines.{place_of, line, move_to, edge_to}
use Rattle.axis_settle.specs.Settle.{at_edge, with_entry, settle}
use Rattle.axis_settle.specs.After.{Entered, Moved, Homed}
use Rattle.axis_filter.specs.declared.Line.{Line}
use Rattle.axis_count.proofs.CountLaws.{counted, from_origin}

-- The reference edge goes by the levels alone: two axes that have the same, in whatever modes, have the same edge.
pub edge_by_levels : (x y : Axis) (n : Wire → Line) → x.levels ≡ y.levels → edge_to x n ≡ edge_to y n
unfolding edge_to line place_of
edge_by_levels x y n e =
    ap (λ (l : List Bool). edge_by (entry X4 (code (get_or l 0 false) (get_or l 1 false)) (code (n A).level (n B).level)) (get_or l 2 false)
    (n Z).level) e

-- Where there is no edge the index line does nothing.
pub no_edge : (x : Axis) → at_edge false x ≡ x
unfolding at_edge
no_edge x = rw (or-false x.flags.homed, and-true x.flags.range, or-false x.flags.index)

module _ (x : Axis) (n : Wire → Line) where
  -- Doubles, direction, age and period go by the entry.
  pub entered : Entered x n
  unfolding settle at_edge with_entry
  entered = record { doubles = refl; pace = refl }

  -- The three ways of an edge: met forward, met backward, and none.
  settle_ahead : edge_to x n ≡ Some MetForward → settle x n ≡ at_edge true (with_entry (move_to x n) n x)
  unfolding settle
  settle_ahead e = rw (e, no_edge)

  settle_astern : edge_to x n ≡ Some MetBackward → settle x n ≡ with_entry (move_to x n) n (at_edge true x)
  unfolding settle
  settle_astern e = rw (e, no_edge)

  settle_off : edge_to x n ≡ None → settle x n ≡ with_entry (move_to x n) n x
  unfolding settle
  settle_off e = rw (e, no_edge x, no_edge)

  -- A sample that does not home counts, and checks.
  pub counts : (x.flags.armed && met (edge_to x n)) ≡ false → Moved x n
  unfolding at_edge with_entry
  counts h = go x.flags.armed (edge_to x n) refl refl
    where
      go : (a : Bool) (w : Option Way) → x.flags.armed ≡ a → edge_to x n ≡ w → Moved x n
      go a None p e =
          let s = settle_off e in
          record { word = rw s; range = rw s; armed = rw s; homed = rw s; index = rw (s, e) (sym (or-false x.flags.index)) }
      go true (Some w) p e = absurd (true≢false (sym (rw (e, p)) ∙ h))
      go false (Some MetForward) p e =
          let s = settle_ahead e in
          record {
            word = rw (s, p);
            range = rw (s, p, and-true);
            armed = rw (s, p);
            homed = rw (s, p, or-false);
            index = rw (s, e, p);
          }
      go false (Some MetBackward) p e =
          let s = settle_astern e in
          record {
            word = rw (s, p);
            range = rw (s, p, and-true);
            armed = rw (s, p);
            homed = rw (s, p, or-false);
            index = rw (s, e, p);
          }

  -- A sample that homes puts the position to 0, after the count or, backward, before it; it sets HOMED, clears ARMED and RANGE, and checks
  -- nothing.
  pub homes_to_0 : (x.flags.armed && met (edge_to x n)) ≡ true → Homed x n
  unfolding at_edge with_entry position_of
  homes_to_0 h = go x.flags.armed (edge_to x n) refl refl
    where
      go : (a : Bool) (w : Option Way) → x.flags.armed ≡ a → edge_to x n ≡ w → Homed x n
      go true (Some MetForward) p e =
          let s = settle_ahead e in
          record {
            position = rw (s, e, p);
            range = simp (s, p, and-false);
            armed = rw s;
            homed = rw (s, p, or-true);
            index = rw (s, p, or-false);
          }
      go true (Some MetBackward) p e =
          let s = settle_astern e in
          record {
            position = rw (s, e, p) (from_origin _).0;
            range = simp (s, p, and-false) (from_origin _).1;
            armed = rw s;
            homed = rw (s, p, or-true);
            index = rw (s, p, or-false);
          }
      go true None p e = absurd (true≢false (sym h ∙ rw (e, p)))
      go false w p e = absurd (true≢false (sym h ∙ rw p))

  -- A sample that does not home and leaves RANGE clear found it clear, and moves the position by what its entry is worth.
  pub place : (x.flags.armed && met (edge_to x n)) ≡ false → (settle x n).flags.range ≡ false →
      (x.flags.range ≡ false) × (position_of (settle x n).word ≡ position_of x.word +ℤ worth (move_to x n))
  place h e =
      let c = counts h in
      let k = counted (move_to x n) x.word x.flags.range (sym c.range ∙ e) in
      (k.0, ap position_of c.word ∙ k.1)
