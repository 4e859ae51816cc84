-- The reason for one reference edge, on a row: at depth 1, x4, a row that is homed over an edge, forward or backward, is counted from that
-- edge's angle, and no check at an edge a whole number of turns away sets INDEX.
use Rattle.std.specs.Prelude.{Result, Ok, Err}
use mathlib.Core.Path.{◌≡◌, refl, sym, ap, ◌∙◌, subst}
use mathlib.Core.Logic.{◌↔◌}
use mathlib.Core.Bool.{Bool, true, false, cond, ◌&&◌, true≢false, and-false, or-true}
use mathlib.Core.List.{List, ◌∷◌}
use Prim.Native.Nat.{ℕ}
use native.Mathlib.Omega.{arith}
use lib.IntN.{ℤ, ◌-ℤ◌}
use Rattle.position.specs.Position.{in_range, position_of}
use Rattle.axis.specs.Kind.{X4}
use Rattle.axis.specs.Row.{axis_of, Words}
use Rattle.axis.specs.declared.config.Config.{Config}
use Rattle.axis.specs.declared.row.Axis.{Axis}
use Rattle.axis.specs.declared.row.Row.{Row}
use Rattle.axis.proofs.TestLaws.{refuted}
use Rattle.axis_sound.specs.Sound.{is_empty, status_of}
use Rattle.axis_sound.specs.declared.Status.TheVariants.{Sampled}
use Rattle.axis_filter.specs.Lines.{raw_of}
use Rattle.axis_filter.specs.declared.Raw.{Raw}
use Rattle.record.specs.Record.{read_as}
use Rattle.row_sample.specs.Sample.{step_row}
use Rattle.row_calls.proofs.SetupLaws.{not_zero}
use Rattle.row_calls.specs.Calls.{Setup, Erase, Preset, Arm, Acknowledge}
use Rattle.history_axis.specs.Acts.{sampled, preset, after, Legal}
use Rattle.history_axis.specs.Levels.{primed_at}
use Rattle.history_axis.specs.Edge.{forward_at, backward_at, edge_at}
use Rattle.history_axis.specs.Homing.{armed_at, homes_at, homed_at}
use Rattle.history_axis.specs.Reference.{shown, EdgeAngle, Over, OverEdge, Zero, set, homed, zero_angle, Near, WholeTurns}
use Rattle.history_axis.specs.Reference.{Follows, first as firstSeen, turns, homes, presets, arms, acknowledges}
use Rattle.history_axis.proofs.HistoryLaws.{configuration_history, primed_history, position_walk, range_history}
use Rattle.history_axis.proofs.HistoryLaws.{armed_history, homed_history, index_history}
use Rattle.history_axis.proofs.ReferenceLaws.{home_clear, edge_exactly, home_position, position_follows, homed_edge, check_holds}
use Rattle.runs.specs.Op.{Op, changes, restore, reading, looks}
use Rattle.runs.specs.Event.{Event, bits, asked, row_since}
use Rattle.history.specs.Phase.{Phase, acted, moved, by_sort, restored_to, after_change, after_call, after_event, phase_of}
use Rattle.history.specs.Phase.{start_axis, acts_since}
use Rattle.history.specs.Lasting.{erases}
use Rattle.history.specs.Reference.{OnShaft, zero_by, zero_after}
use Rattle.history.proofs.RowHistory.{status_history}
use Rattle.history.proofs.SampledHistory.{start, legal, axis_row, index_bit_row, next_phase, next_axis}
use Rattle.refusal.specs.declared.Refusal.{Refusal}
use Rattle.record_axis.specs.declared.saved.Saved.{Saved}

-- ---- a row that is x4 at depth 1, and one sample more

module _ {r : Row} (words : Words r) (h : List Event) (live : status_of (row_since r h) ≡ Sampled)
    (kind : (axis_of (row_since r h)).config.kind ≡ X4) (depth : (axis_of (row_since r h)).config.depth ≡ 1) where
  same : axis_of (row_since r h) ≡ after (start_axis r h) (acts_since r h)
  same = axis_row words h live

  config_is : (axis_of (row_since r h)).config ≡ (start_axis r h).config
  config_is =
      ap (λ (x : Axis). x.config) same
      ∙ configuration_history (start_axis r h) (start words h live) (acts_since r h) (legal words h live)

  kind_is : (start_axis r h).config.kind ≡ X4
  kind_is = sym (ap (λ (c : Config). c.kind) config_is) ∙ kind

  depth_is : (start_axis r h).config.depth ≡ 1
  depth_is = sym (ap (λ (c : Config). c.depth) config_is) ∙ depth

  -- ARMED, as the acts of the phase tell it.
  armed_is : armed_at (start_axis r h) (acts_since r h) ≡ (axis_of (row_since r h)).flags.armed
  armed_is =
      sym (armed_history (start_axis r h) (start words h live) (acts_since r h) (legal words h live))
      ∙ sym (ap (λ (y : Axis). y.flags.armed) same)

  -- PRIMED too.
  primed_is : primed_at (start_axis r h) (acts_since r h) ≡ (axis_of (row_since r h)).flags.primed
  primed_is =
      sym (primed_history (start_axis r h) (start words h live) (acts_since r h) (legal words h live))
      ∙ sym (ap (λ (y : Axis). y.flags.primed) same)

  -- An event that begins no phase leaves it such a row.
  on_event : (e : Event) {z : ℤ → Bool} {c : ℤ} {o : Zero} → (phase_of r (e ∷ h)).start ≡ (phase_of r h).start →
      Follows z (start_axis r (e ∷ h)) (acts_since r (e ∷ h)) c o → OnShaft z r (e ∷ h) c o
  on_event e began f =
      let still = status_history words (e ∷ h) ∙ ap status_of began ∙ sym (status_history words h) ∙ live in
      let config = ap (λ (y : Axis). y.config) (axis_row words (e ∷ h) still)
      ∙ configuration_history (start_axis r (e ∷ h)) (start words (e ∷ h) still) (acts_since r (e ∷ h)) (legal words (e ∷ h) still)
      ∙ ap (λ (s : Row). (axis_of s).config) began in
      record {
        live = still;
        kind = ap (λ (g : Config). g.kind) config ∙ kind_is;
        depth = ap (λ (g : Config). g.depth) config ∙ depth_is;
        follows = f;
      }

  module _ (n : ℕ) where
    next_legal : Legal (sampled (raw_of n) ∷ acts_since r h)
    next_legal = (tt, legal words h live)

    next : axis_of (row_since r (bits n ∷ h)) ≡ after (start_axis r h) (sampled (raw_of n) ∷ acts_since r h)
    next = next_axis words h live n

    on_next : {z : ℤ → Bool} {c : ℤ} {o : Zero} → raw_of n ≡ shown z c →
        Follows z (start_axis r h) (sampled (shown z c) ∷ acts_since r h) c o → OnShaft z r (bits n ∷ h) c o
    on_next {z} {c} {o} levels f =
        on_event (bits n) (ap (λ (p : Phase). p.start) (next_phase words h live n))
        (subst (λ (p : Phase). Follows z (axis_of p.start) p.acts c o) (sym (next_phase words h live n))
        (subst (λ (s : Raw). Follows z (start_axis r h) (sampled s ∷ acts_since r h) c o) (sym levels) f))

    -- No home on an axis that is not primed, or not armed.
    no_home : (s : Raw) → ((axis_of (row_since r h)).flags.primed && (axis_of (row_since r h)).flags.armed) ≡ false →
        homes_at (start_axis r h) s (acts_since r h) ≡ false
    unfolding homes_at edge_at forward_at backward_at
    no_home s e = go (axis_of (row_since r h)).flags.primed (axis_of (row_since r h)).flags.armed refl refl e
      where
        go : (p a : Bool) → (axis_of (row_since r h)).flags.primed ≡ p → (axis_of (row_since r h)).flags.armed ≡ a → (p && a) ≡ false →
            homes_at (start_axis r h) s (acts_since r h) ≡ false
        go true a p q e = rw (armed_is ∙ q ∙ e)
        go false a p q e = rw (primed_is ∙ p, and-false)

    -- A sample that primes the row, or finds it not armed, is a first one.
    pub first_row : (z : ℤ → Bool) (b : ℤ) → raw_of n ≡ shown z b →
        ((axis_of (row_since r h)).flags.primed && (axis_of (row_since r h)).flags.armed) ≡ false →
        OnShaft z r (bits n ∷ h) b (set (b -ℤ position_of (row_since r (bits n ∷ h)).w0))
    first_row z b levels e =
        let x = start_axis r h in
        let place = ap (λ (y : Axis). position_of y.word) next
        ∙ position_walk x (start words h live) (sampled (raw_of n) ∷ acts_since r h) next_legal in
        rw (place, levels) (on_next levels (firstSeen (acts_since r h) b (no_home (shown z b) e)))

-- ---- a call that is no erase

module _ (z : ℤ → Bool) (p : Phase) (live : status_of p.start ≡ Sampled) {b : ℤ} {o : Zero}
    (f : Follows z (axis_of p.start) p.acts b o) where
  -- A phase q in which the shaft is followed from the zero k.
  Stays : Phase → Zero → Type 0
  Stays q k = (q.start ≡ p.start) × Follows z (axis_of q.start) q.acts b k

  -- The row is not empty.
  full : is_empty p.start ≡ false
  full = not_zero p.start (λ e. let z : ◌≡◌ {A = ℕ} 0 1 = cc in omega arith)

  call_stays : (op : Op) → erases (asked op) ≡ false → Stays (after_call p op) (zero_after op b o)
  unfolding Stays erases after_call after_change zero_after zero_by
  call_stays (changes (Setup kind depth width turn)) e = rw full (refl, f)
  call_stays (changes Erase) e = absurd (true≢false e)
  call_stays (changes (Preset q)) e = go (in_range q)
    where
      go : (v : Bool) → Stays (cond v (by_sort (acted p (preset q)) (moved p q) (status_of p.start) p) p) (cond v (set (b -ℤ q)) o)
      go true = rw live (refl, presets f q)
      go false = (refl, f)
  call_stays (changes Arm) e = rw live (refl, arms f)
  call_stays (changes Acknowledge) e = rw live (refl, acknowledges f)
  call_stays (restore bytes) e = go (read_as bytes)
    where
      go : (v : Result Saved Refusal) → Stays (restored_to p v) o
      go (Ok s) = rw full (refl, f)
      go (Err s) = (refl, f)
  call_stays (reading x) e = rw live (refl, f)
  call_stays (looks l) e = (refl, f)

-- ---- a row on a shaft

module _ {r : Row} (words : Words r) {h : List Event} {z : ℤ → Bool} {b : ℤ} where
  module _ {o : Zero} (on : OnShaft z r h b o) where
    x4_is : (start_axis r h).config.kind ≡ X4
    x4_is = kind_is words h on.live on.kind on.depth

    one_is : (start_axis r h).config.depth ≡ 1
    one_is = depth_is words h on.live on.kind on.depth

    -- While RANGE is clear the position is the shaft's angle less its zero: since a home, the angle of the edge that was homed over.
    pub position_follows_row : (axis_of (row_since r h)).flags.range ≡ false → position_of (row_since r h).w0 ≡ b -ℤ zero_angle o
    position_follows_row clear =
        let x = start_axis r h in
        let s = start words h on.live in
        let l = legal words h on.live in
        let now = axis_row words h on.live in
        ap (λ (y : Axis). position_of y.word) now
        ∙ position_walk x s (acts_since r h) l
        ∙ position_follows x x4_is one_is z on.follows
        (sym (range_history x s (acts_since r h) l) ∙ sym (ap (λ (y : Axis). y.flags.range) now) ∙ clear)

    -- A call that is no erase leaves the row on the shaft, and only an accepted preset moves its zero.
    pub call_row : (op : Op) → erases (asked op) ≡ false → OnShaft z r (asked op ∷ h) b (zero_after op b o)
    unfolding phase_of after_event Stays
    call_row op e =
        let k = call_stays z (phase_of r h) (sym (status_history words h) ∙ on.live) on.follows op e in
        on_event words h on.live on.kind on.depth (asked op) k.0 k.1

    module _ (n : ℕ) (c : ℤ) (levels : raw_of n ≡ shown z c) (near : Near b c) where
      -- A sample's index bit stands exactly where the shaft goes over an edge's angle, either way.
      pub edge_bit_row : ((step_row (row_since r h) n).index ≡ true) ↔ OverEdge z b c
      edge_bit_row = rw (index_bit_row words h on.live n, levels) (edge_exactly (start_axis r h) x4_is one_is z on.follows c near)

      after_row : {p : Zero} → Follows z (start_axis r h) (sampled (shown z c) ∷ acts_since r h) c p → OnShaft z r (bits n ∷ h) c p
      after_row = on_next words h on.live on.kind on.depth n levels

      homes_here : (axis_of (row_since r h)).flags.armed ≡ true → {a : ℤ} → EdgeAngle z a → Over a b c →
          homes_at (start_axis r h) (shown z c) (acts_since r h) ≡ true
      unfolding homes_at
      homes_here armed {a} e v =
          rw (
            armed_is words h on.live on.kind on.depth ∙ armed,
            (edge_exactly (start_axis r h) x4_is one_is z on.follows c near).1 (record { angle = a; edge = e; over = v }),
          )

      -- An armed axis is homed there: whichever way the edge is met, its position is the angle less the edge's, HOMED is set and RANGE
      -- clear, and it follows the shaft from that edge.
      pub home_row : (axis_of (row_since r h)).flags.armed ≡ true → {a : ℤ} → EdgeAngle z a → Over a b c →
          (position_of (row_since r (bits n ∷ h)).w0 ≡ c -ℤ a)
          × ((axis_of (row_since r (bits n ∷ h))).flags.homed ≡ true)
          × ((axis_of (row_since r (bits n ∷ h))).flags.range ≡ false)
          × OnShaft z r (bits n ∷ h) c (homed a)
      unfolding homed_at
      home_row armed {a} e v =
          let x = start_axis r h in
          let s = start words h on.live in
          let l : Legal (sampled (raw_of n) ∷ acts_since r h) = (tt, legal words h on.live) in
          let next = next_axis words h on.live n in
          let acts = sampled (raw_of n) ∷ acts_since r h in
          let now = homes_here armed e v in (
            ap (λ (y : Axis). position_of y.word) next
                ∙ position_walk x s acts l
                ∙ rw levels (home_position x x4_is one_is z on.follows c near now v),
            ap (λ (y : Axis). y.flags.homed) next ∙ homed_history x s acts l ∙ rw (levels, now, or-true),
            ap (λ (y : Axis). y.flags.range) next
                ∙ range_history x s acts l
                ∙ rw levels (home_clear x (shown z c) (acts_since r h) now),
            after_row (homes on.follows c now a v),
          )

      -- An axis that is not armed goes on from the zero that it had.
      pub unarmed_row : (axis_of (row_since r h)).flags.armed ≡ false → OnShaft z r (bits n ∷ h) c o
      unarmed_row free =
          after_row (turns on.follows c near
          (no_home words h on.live on.kind on.depth n (shown z c) (rw (free, and-false))))

      -- So does one whose shaft goes over no edge.
      pub passed_row : (OverEdge z b c → ⊥) → OnShaft z r (bits n ∷ h) c o
      unfolding homes_at
      passed_row none =
          let edge = (edge_exactly (start_axis r h) x4_is one_is z on.follows c near).0 in
          after_row (turns on.follows c near (rw (refuted _ (λ e. none (edge e)), and-false)))

  module _ {a : ℤ} (on : OnShaft z r h b (homed a)) where
    -- Since a home the zero is an edge's angle.
    pub homed_edge_row : EdgeAngle z a
    homed_edge_row = homed_edge (start_axis r h) (x4_is on) (one_is on) z on.follows

    -- While RANGE is clear and every edge lies a whole number of turns from the one that was homed over, no sample sets INDEX, either way.
    pub check_row : (n : ℕ) (c : ℤ) → raw_of n ≡ shown z c → Near b c →
        ((e : ℤ) → EdgeAngle z e → WholeTurns (axis_of (row_since r h)).config.turn e a) →
        (axis_of (row_since r (bits n ∷ h))).flags.range ≡ false →
        (axis_of (row_since r (bits n ∷ h))).flags.index ≡ (axis_of (row_since r h)).flags.index
    check_row n c levels near whole clear =
        let x = start_axis r h in
        let s = start words h on.live in
        let l = legal words h on.live in
        let next = next_axis words h on.live n in
        let acts = sampled (raw_of n) ∷ acts_since r h in
        let turn = ap (λ (g : Config). g.turn) (config_is words h on.live on.kind on.depth) in
        let range = sym (range_history x s acts (tt, l)) ∙ sym (ap (λ (y : Axis). y.flags.range) next) ∙ clear in
        let kept = check_holds x (x4_is on) (one_is on) z on.follows c near (rw levels at range) a (λ e k. rw turn at (whole e k)) in
        ap (λ (y : Axis). y.flags.index) next
        ∙ index_history x s acts (tt, l)
        ∙ rw levels kept
        ∙ sym (index_history x s (acts_since r h) l)
        ∙ sym (ap (λ (y : Axis). y.flags.index) (axis_row words h on.live))
