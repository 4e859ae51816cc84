-- The reason for one reference edge: at depth 1, x4, a shaft that is homed at an edge, forward or backward, is counted from that edge's
-- angle, and no check at an edge a whole number of turns away sets INDEX.
use mathlib.Core.Path.{◌≡◌, refl, sym, ◌∙◌, ap, subst}
use mathlib.Core.Logic.{◌↔◌}
use mathlib.Core.Bool.{Bool, true, false, cond, not, ◌&&◌, ◌||◌, true≢false, and-false, or-true, or-false}
use mathlib.Core.List.{List, [], ◌∷◌}
use Prim.Native.Nat.{ℕ, zero, suc, ◌+◌, ◌*◌, ◌%◌, ◌≤◌}
use native.Mathlib.Nat.{mod-eq_of_lt, add-mul-mod_self_right}
use native.Mathlib.Omega.{arith}
use borrow.Author.Tests.{ltb-true, ne_eqb}
use lib.Dec.{eqb, ltb}
use lib.IntN.{ℤ, pos, negsuc, nat_abs, ◌+ℤ◌, ◌-ℤ◌, ◌*ℤ◌}
use Rattle.integers.specs.Integer.{plus, minus}
use Rattle.integers.proofs.Balance.{Decided, yes, no, test, bal_add, bal_sub, bal_scale, abs_is, eq_z}
use Rattle.axis.specs.Kind.{X4}
use Rattle.axis.specs.declared.row.Axis.{Axis}
use Rattle.axis.proofs.TestLaws.{both}
use Rattle.axis_filter.specs.Lines.{Z, level_of}
use Rattle.axis_filter.specs.declared.Raw.{Raw}
use Rattle.axis_decode.specs.Decode.{entry, worth, is_p, is_m, is_e}
use Rattle.axis_decode.specs.declared.Move.{Move}
use Rattle.axis_decode.specs.declared.Move.TheVariants.{Still, Forward, Back, Double}
use Rattle.axis_index.specs.Index.{off_turn}
use Rattle.position.specs.Position.{in_range}
use Rattle.history_axis.specs.Acts.{Act, sampled}
use Rattle.history_axis.specs.Levels.{primed_at, since, level_at}
use Rattle.history_axis.specs.Entries.{code_at, entry_at}
use Rattle.history_axis.specs.Edge.{quarter_at, forward_at, backward_at, edge_at}
use Rattle.history_axis.specs.Homing.{armed_at, homes_at, homed_at}
use Rattle.history_axis.specs.Tally.{onward, homed_tally, holds, walk, held_in, walked, ranged, place_tally, position_at, range_at}
use Rattle.history_axis.specs.Index.{checked_at, index_at}
use Rattle.history_axis.specs.Shaft.{angle_code, raw_at}
use Rattle.history_axis.specs.Reference.{shown, EdgeAngle, Over, ahead, astern, OverEdge, Zero, homed, zero_angle, Near}
use Rattle.history_axis.specs.Reference.{Follows, first, turns, homes, presets, arms, acknowledges, WholeTurns}
use Rattle.history_axis.proofs.LevelsLaws.{level_one}
use Rattle.history_axis.proofs.EntriesLaws.{entry_primed}
use Rattle.history_axis.proofs.AngleLaws.{expected, expected_double, expected_worth, entry_shown, code_at_lem}
use Rattle.history_axis.proofs.TallyLaws.{one_clear}

-- ---- angles

back_at : (b p : ℤ) → p ≡ b -ℤ (b -ℤ p)
back_at b p = eq_z p (b -ℤ (b -ℤ p)) (omega (arith, bal_sub b (b -ℤ p), bal_sub b p))

onward_from : (a b c : ℤ) → (b -ℤ a) +ℤ (c -ℤ b) ≡ c -ℤ a
onward_from a b c = eq_z ((b -ℤ a) +ℤ (c -ℤ b)) (c -ℤ a) (omega (arith, bal_add (b -ℤ a) (c -ℤ b), bal_sub b a, bal_sub c b, bal_sub c a))

at_zero : (a : ℤ) → pos 0 ≡ a -ℤ a
at_zero a = eq_z (pos 0) (a -ℤ a) (omega (arith, bal_sub a a))

one_before : (a : ℤ) → negsuc 0 ≡ (a -ℤ pos 1) -ℤ a
one_before a = eq_z (negsuc 0) ((a -ℤ pos 1) -ℤ a) (omega (arith, bal_sub (a -ℤ pos 1) a, bal_sub a (pos 1)))

one_after : (a : ℤ) → pos 1 ≡ a -ℤ (a -ℤ pos 1)
one_after a = eq_z (pos 1) (a -ℤ (a -ℤ pos 1)) (omega (arith, bal_sub a (a -ℤ pos 1), bal_sub a (pos 1)))

apart_two : (a e : ℤ) → a ≡ e -ℤ pos 1 → e ≡ a -ℤ pos 1 → ⊥
apart_two a e p q =
    omega (arith, bal_sub e (pos 1), bal_sub a (pos 1), ap plus p, ap minus p, ap plus q, ap minus q)

behind_one : (b c : ℤ) → c -ℤ b ≡ pos 1 → b ≡ c -ℤ pos 1
behind_one b c e = eq_z b (c -ℤ pos 1) (omega (arith, bal_sub c b, bal_sub c (pos 1), ap plus e, ap minus e))

behind_back : (b c : ℤ) → c -ℤ b ≡ negsuc 0 → c ≡ b -ℤ pos 1
behind_back b c e = eq_z c (b -ℤ pos 1) (omega (arith, bal_sub c b, bal_sub b (pos 1), ap plus e, ap minus e))

-- ---- a move of at most one quarter step

-- It is no double step.
near_single : (d : ℤ) → nat_abs d ≤ 1 → is_e (expected d) ≡ false
near_single d g = expected_double d (omega arith) ∙ ne_eqb (nat_abs d) 2 (λ e. let z : ⊥ = omega arith in z)

-- Its entry is + where it is one forward, and - where it is one backward.
near_ahead : (d : ℤ) → is_p (expected d) ≡ true → d ≡ pos 1
unfolding expected is_p
near_ahead (pos zero) e = absurd (true≢false (sym e))
near_ahead (pos (suc zero)) e = refl
near_ahead (pos (suc (suc n))) e = absurd (true≢false (sym e))
near_ahead (negsuc zero) e = absurd (true≢false (sym e))
near_ahead (negsuc (suc n)) e = absurd (true≢false (sym e))

near_astern : (d : ℤ) → is_m (expected d) ≡ true → d ≡ negsuc 0
unfolding expected is_m
near_astern (pos zero) e = absurd (true≢false (sym e))
near_astern (pos (suc zero)) e = absurd (true≢false (sym e))
near_astern (pos (suc (suc n))) e = absurd (true≢false (sym e))
near_astern (negsuc zero) e = refl
near_astern (negsuc (suc n)) e = absurd (true≢false (sym e))

not_true : (b : Bool) → not b ≡ true → b ≡ false
not_true true e = absurd (true≢false (sym e))
not_true false e = refl

-- A move over an angle is one.
over_near : {a b c : ℤ} → Over a b c → Near b c
over_near {a} {b} {c} (ahead p q) = let move : c -ℤ b ≡ pos 1 = rw (p, q) (sym (one_after a)) in rw move (omega arith)
over_near {a} {b} {c} (astern p q) = let move : c -ℤ b ≡ negsuc 0 = rw (p, q) (sym (one_before a)) in rw move (omega arith)

-- ---- whole turns

over_one : {a e b c : ℤ} → Over e b c → Over a b c → e ≡ a
over_one (ahead p q) (ahead u v) = sym q ∙ v
over_one (astern p q) (astern u v) = sym p ∙ u
over_one {a} {e} (ahead p q) (astern u v) = absurd (apart_two a e (sym u ∙ p) (sym q ∙ v))
over_one {a} {e} (astern p q) (ahead u v) = absurd (apart_two e a (sym p ∙ u) (sym v ∙ q))

-- Two edges that lie whole turns from one angle lie whole turns apart.
whole_off : {turn : ℕ} {e a w : ℤ} → WholeTurns turn e w → WholeTurns turn a w → off_turn turn (e -ℤ a) ≡ false
unfolding off_turn
whole_off {turn} {e} {a} {w} k l = go (test (ltb 0 turn))
  where
    n : ℤ
    n = k.turns -ℤ l.turns

    scaled : (plus n + (minus k.turns + plus l.turns)) * turn ≡ ((plus k.turns + minus l.turns) + minus n) * turn
    scaled = ap (λ (i : ℕ). i * turn) (bal_sub k.turns l.turns)

    is : e -ℤ a ≡ n *ℤ pos turn
    is =
        eq_z (e -ℤ a) (n *ℤ pos turn)
        (omega (
          arith,
          scaled,
          bal_scale n turn,
          bal_scale k.turns turn,
          bal_scale l.turns turn,
          bal_sub e a,
          bal_sub e w,
          bal_sub a w,
          ap plus k.apart,
          ap minus k.apart,
          ap plus l.apart,
          ap minus l.apart,
        ))

    size : nat_abs (e -ℤ a) ≡ 0 + (plus n + minus n) * turn
    size = ap nat_abs is ∙ abs_is (n *ℤ pos turn) ∙ omega (arith, bal_scale n turn)

    go : Decided (ltb 0 turn) → (ltb 0 turn && not (eqb (nat_abs (e -ℤ a) % turn) 0)) ≡ false
    go (no q) = rw q
    go (yes q) = rw (q, size, add-mul-mod_self_right 0 (plus n + minus n) turn, mod-eq_of_lt (ltb-true 0 turn q))

-- ---- a home

one_counts : (m : Move) → held_in (pos 0) (m ∷ []) ≡ false
unfolding held_in holds walk in_range worth
one_counts Still = refl
one_counts Forward = refl
one_counts Back = refl
one_counts Double = refl

one_back : walk (pos 0) (expected (negsuc 0) ∷ []) ≡ negsuc 0
unfolding walk holds in_range worth expected
one_back = refl

-- After a home RANGE is clear, whatever the mode and the depth.
pub home_clear : (x : Axis) (s : Raw) (h : List Act) → homes_at x s h ≡ true → range_at x (sampled s ∷ h) ≡ false
unfolding place_tally entry_at held_in
home_clear x s h e = rw e (go (backward_at x s h) (primed_at x h) _)
  where
    go : (b p : Bool) (m : Move) → ranged (homed_tally b (cond p (m ∷ []) [])) ≡ false
    go true true m = one_counts m
    go true false m = refl
    go false p m = refl

module _ (x : Axis) (kind : x.config.kind ≡ X4) (depth : x.config.depth ≡ 1) (z : ℤ → Bool) where
  -- What the acts show of the shaft at its angle.
  record ShownAt (h : List Act) (b : ℤ) : Type 0 where
    code : code_at x h ≡ angle_code b
    level : level_at x Z h ≡ z b
    primed : primed_at x h ≡ true

  shown_first : (h : List Act) (c : ℤ) → ShownAt (sampled (shown z c) ∷ h) c
  unfolding primed_at raw_at level_of
  shown_first h c = record {
    code = code_at_lem x depth (record { angle = c; z = z c }) h;
    level = level_one x Z (shown z c) h depth;
    primed = refl;
  }

  shown_at : {h : List Act} {b : ℤ} {o : Zero} → Follows z x h b o → ShownAt h b
  unfolding code_at level_at since primed_at
  shown_at (first h b n) = shown_first h b
  shown_at (turns {h} f c g n) = shown_first h c
  shown_at (homes {h} f c n a v) = shown_first h c
  shown_at (presets f p) = let i = shown_at f in record { code = i.code; level = i.level; primed = i.primed }
  shown_at (arms f) = let i = shown_at f in record { code = i.code; level = i.level; primed = i.primed }
  shown_at (acknowledges f) = let i = shown_at f in record { code = i.code; level = i.level; primed = i.primed }

  module _ {h : List Act} {b : ℤ} {o : Zero} (f : Follows z x h b o) (c : ℤ) (near : Near b c) where
    quarter_is : quarter_at x (shown z c) h ≡ expected (c -ℤ b)
    unfolding quarter_at
    quarter_is =
        rw ((shown_at f).code, (shown_first h c).code) (entry_shown b c (omega (arith, near)))

    entry_is : entry_at x (shown z c) h ≡ expected (c -ℤ b) ∷ []
    unfolding quarter_at
    entry_is =
        entry_primed x (shown z c) h (shown_at f).primed
        ∙ ap (λ (k : ℕ). entry k (code_at x h) (code_at x (sampled (shown z c) ∷ h)) ∷ []) kind
        ∙ ap (λ (m : Move). m ∷ []) quarter_is

    forward_is : forward_at x (shown z c) h ≡ (is_p (expected (c -ℤ b)) && (not (z b) && z c))
    unfolding forward_at
    forward_is = simp ((shown_at f).primed, quarter_is, (shown_at f).level, (shown_first h c).level)

    backward_is : backward_at x (shown z c) h ≡ (is_m (expected (c -ℤ b)) && (z b && not (z c)))
    unfolding backward_at
    backward_is = simp ((shown_at f).primed, quarter_is, (shown_at f).level, (shown_first h c).level)

    -- A reference edge that is met forward, or backward, is a move over an edge's angle.
    over_ahead : forward_at x (shown z c) h ≡ true → OverEdge z b c
    over_ahead e =
        let k = both _ _ (sym forward_is ∙ e) in
        let l = both _ _ k.1 in
        let q = behind_one b c (near_ahead (c -ℤ b) k.0) in
        record { angle = c; edge = record { before = ap z (sym q) ∙ not_true (z b) l.0; at = l.1 }; over = ahead q refl }

    over_astern : backward_at x (shown z c) h ≡ true → OverEdge z b c
    over_astern e =
        let k = both _ _ (sym backward_is ∙ e) in
        let l = both _ _ k.1 in
        let q = behind_back b c (near_astern (c -ℤ b) k.0) in
        record { angle = b; edge = record { before = ap z (sym q) ∙ not_true (z c) l.1; at = l.0 }; over = astern refl q }

    -- And such a move is one.
    ahead_met : {a : ℤ} → EdgeAngle z a → b ≡ a -ℤ pos 1 → c ≡ a → forward_at x (shown z c) h ≡ true
    unfolding expected is_p
    ahead_met {a} e p q =
        let move : c -ℤ b ≡ pos 1 = rw (p, q) (sym (one_after a)) in
        forward_is ∙ rw (move, ap z p ∙ e.before, ap z q ∙ e.at)

    astern_met : {a : ℤ} → EdgeAngle z a → b ≡ a → c ≡ a -ℤ pos 1 → backward_at x (shown z c) h ≡ true
    unfolding expected is_m
    astern_met {a} e p q =
        let move : c -ℤ b ≡ negsuc 0 = rw (p, q) (sym (one_before a)) in
        backward_is ∙ rw (move, ap z p ∙ e.at, ap z q ∙ e.before)

    -- A sample is a reference edge exactly where the shaft goes over an edge's angle, either way.
    pub edge_exactly : (edge_at x (shown z c) h ≡ true) ↔ OverEdge z b c
    unfolding edge_at
    edge_exactly = (λ e. go (forward_at x (shown z c) h) refl e, λ k. back k.edge k.over)
      where
        go : (v : Bool) → forward_at x (shown z c) h ≡ v → (v || backward_at x (shown z c) h) ≡ true → OverEdge z b c
        go true p e = over_ahead p
        go false p e = over_astern e

        back : {a : ℤ} → EdgeAngle z a → Over a b c → (forward_at x (shown z c) h || backward_at x (shown z c) h) ≡ true
        back e (ahead p q) = rw (ahead_met e p q)
        back e (astern p q) = rw (astern_met e p q, or-true)

    not_astern : {a : ℤ} → b ≡ a -ℤ pos 1 → c ≡ a → backward_at x (shown z c) h ≡ false
    unfolding expected is_m
    not_astern {a} p q = let move : c -ℤ b ≡ pos 1 = rw (p, q) (sym (one_after a)) in backward_is ∙ rw move

    not_ahead : {a : ℤ} → b ≡ a → c ≡ a -ℤ pos 1 → forward_at x (shown z c) h ≡ false
    unfolding expected is_p
    not_ahead {a} p q = let move : c -ℤ b ≡ negsuc 0 = rw (p, q) (sym (one_before a)) in forward_is ∙ rw move

    -- A sample that homes is a reference edge.
    home_edge : homes_at x (shown z c) h ≡ true → edge_at x (shown z c) h ≡ true
    unfolding homes_at
    home_edge e = (both (armed_at x h) _ e).1

    edge_parts : edge_at x (shown z c) h ≡ true → (forward_at x (shown z c) h || backward_at x (shown z c) h) ≡ true
    unfolding edge_at
    edge_parts e = e

    -- A home over an edge, forward or backward, makes the position after its sample the angle less the edge's.
    pub home_position : homes_at x (shown z c) h ≡ true → {a : ℤ} → Over a b c → position_at x (sampled (shown z c) ∷ h) ≡ c -ℤ a
    unfolding place_tally walk
    home_position e {a} (ahead p q) = rw (e, not_astern p q, q) (at_zero a)
    home_position e {a} (astern p q) =
        let back : backward_at x (shown z c) h ≡ true = sym (rw (not_ahead p q)) ∙ edge_parts (home_edge e) in
        let move : c -ℤ b ≡ negsuc 0 = rw (p, q) (sym (one_before a)) in
        rw (e, back, entry_is, move, q) (one_back ∙ one_before a)

    -- A sample that does not home counts its move.
    counts_on : homes_at x (shown z c) h ≡ false → range_at x (sampled (shown z c) ∷ h) ≡ false →
        (range_at x h ≡ false) × (position_at x (sampled (shown z c) ∷ h) ≡ position_at x h +ℤ (c -ℤ b))
    unfolding place_tally
    counts_on n r =
        let next : place_tally x (sampled (shown z c) ∷ h) ≡ onward (expected (c -ℤ b) ∷ []) (place_tally x h) = rw (n, entry_is) in
        let k = one_clear (place_tally x h) (expected (c -ℤ b)) (ap ranged (sym next) ∙ r) in
        (k.0, ap walked next ∙ k.1 ∙ ap (λ (d : ℤ). position_at x h +ℤ d) (expected_worth (c -ℤ b) (near_single (c -ℤ b) near)))

  -- ---- the position

  -- While RANGE is clear the position is the shaft's angle less its zero: since a home, the angle of the edge that was homed over.
  pub position_follows : {h : List Act} {b : ℤ} {o : Zero} → Follows z x h b o → range_at x h ≡ false → position_at x h ≡ b -ℤ zero_angle o
  unfolding place_tally walk
  position_follows (first h b n) r = back_at b _
  position_follows (turns {h} {b} {o} f c g n) r =
      let k = counts_on f c g n r in
      k.1 ∙ ap (λ (p : ℤ). p +ℤ (c -ℤ b)) (position_follows f k.0) ∙ onward_from (zero_angle o) b c
  position_follows (homes f c n a v) r = home_position f c (over_near v) n v
  position_follows (presets {b = b} f p) r = back_at b p
  position_follows (arms f) r = position_follows f r
  position_follows (acknowledges f) r = position_follows f r

  -- Since a home its zero is an edge's angle.
  pub homed_edge : {h : List Act} {b a : ℤ} → Follows z x h b (homed a) → EdgeAngle z a
  homed_edge (turns f c g n) = homed_edge f
  homed_edge (homes f c n a v) =
      let k = (edge_exactly f c (over_near v)).0 (home_edge f c (over_near v) n) in
      subst (EdgeAngle z) (over_one k.over v) k.edge
  homed_edge (arms f) = homed_edge f
  homed_edge (acknowledges f) = homed_edge f

  -- ---- the check

  module _ {h : List Act} {b a : ℤ} (f : Follows z x h b (homed a)) (c : ℤ) (near : Near b c)
      (r : range_at x (sampled (shown z c) ∷ h) ≡ false) where
    -- The position that is checked is an edge's angle less that of the home.
    looked : homes_at x (shown z c) h ≡ false → {e : ℤ} → EdgeAngle z e → Over e b c → checked_at x (shown z c) h ≡ e -ℤ a
    unfolding checked_at place_tally
    looked n k (ahead p q) =
        rw (not_astern f c near p q) (rw n at (position_follows (turns f c near n) r) ∙ ap (λ (y : ℤ). y -ℤ a) q)
    looked n k (astern p q) =
        rw (astern_met f c near k p q) (position_follows f (counts_on f c near n r).0 ∙ ap (λ (y : ℤ). y -ℤ a) p)

    unarmed : armed_at x h ≡ false → homes_at x (shown z c) h ≡ false
    unfolding homes_at
    unarmed q = rw q

    -- Since a home, while RANGE is clear and every edge lies a whole number of turns from one angle, no sample sets INDEX, either way.
    pub check_holds : (w : ℤ) → ((e : ℤ) → EdgeAngle z e → WholeTurns x.config.turn e w) →
        index_at x (sampled (shown z c) ∷ h) ≡ index_at x h
    unfolding index_at
    check_holds w whole = go (edge_at x (shown z c) h) (armed_at x h) refl refl
      where
        quiet : homes_at x (shown z c) h ≡ false → OverEdge z b c → off_turn x.config.turn (checked_at x (shown z c) h) ≡ false
        quiet n k = rw (looked n k.edge k.over) (whole_off (whole _ k.edge) (whole a (homed_edge f)))

        go : (v u : Bool) → edge_at x (shown z c) h ≡ v → armed_at x h ≡ u → index_at x (sampled (shown z c) ∷ h) ≡ index_at x h
        go false u p q = rw (p, or-false (index_at x h))
        go true true p q = rw (p, q, or-false (index_at x h))
        go true false p q =
            rw (p, q, quiet (unarmed q) ((edge_exactly f c near).0 p), and-false (homed_at x h), or-false (index_at x h))

-- ---- one way at most

-- A reference edge is met one way at most, at any depth.
pub met_one_way : (x : Axis) (s : Raw) (h : List Act) → forward_at x s h ≡ true → backward_at x s h ≡ false
unfolding forward_at backward_at
met_one_way x s h = go (primed_at x h) (is_p (quarter_at x s h)) (is_m (quarter_at x s h)) (level_at x Z h) (level_at x Z (sampled s ∷ h))
  where
    go : (p f b old new : Bool) → (p && (f && (not old && new))) ≡ true → (p && (b && (old && not new))) ≡ false
    go false f b old new e = refl
    go true false b old new e = absurd (true≢false (sym e))
    go true true b true new e = absurd (true≢false (sym e))
    go true true false false new e = refl
    go true true true false new e = refl
