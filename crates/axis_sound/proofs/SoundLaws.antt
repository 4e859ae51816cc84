-- The laws of sound rows: what each status says of the row and of its axis, and which axes make such a row.
use Prim.Native.Nat.{ℕ, ◌^◌, ◌<◌, ◌≤◌}
use native.Mathlib.Omega.{arith}
use mathlib.Core.Path.{◌≡◌, refl, sym, ap, subst, ◌∙◌}
use mathlib.Core.Logic.{◌↔◌, ⊎_elim}
use mathlib.Core.Bool.{Bool, true, false, cond, not, ◌&&◌, and-false, true≢false}
use lib.Dec.{eqb, lit<}
use borrow.Author.Tests.{eqb-true, not-true, ne_eqb, le-leb}
use Rattle.position.specs.Position.{Word}
use Rattle.fields.specs.Field.{field_of}
use Rattle.fields.proofs.BitLaws.{part_zero, part_clear}
use Rattle.axis.specs.declared.config.Config.{Config}
use Rattle.axis.specs.declared.row.Axis.{Axis}
use Rattle.axis.specs.declared.row.Row.{Row}
use Rattle.axis_sound.specs.declared.Status.{Status}
use Rattle.axis_sound.specs.declared.Status.TheVariants.{Empty, Sampled, Counter, Broken}
use Rattle.axis.specs.Kind.{COUNTER, sampled_kind}
use Rattle.axis.specs.Config.{sampled_config, counter_config, good_config, SampledSetting, CounterSetting}
use Rattle.axis.specs.Row.{config_in, axis_of, row_of, word1_of, word2_of, empty_row, waiting, fresh_at, blank, ConfigFits, Held, Words}
use Rattle.axis_sound.specs.Sound.{is_empty, is_plain, is_consistent, is_sampled, is_counter, status_of, passes}
use Rattle.axis_sound.specs.Sound.{SampledAxis, counter_of, CounterAxis}
use Rattle.axis.proofs.RowLaws.{same_config, row_held, waiting_held, row_again, back, comes_back}
use Rattle.axis.proofs.TestLaws.{both, refuted}
use Rattle.axis.proofs.ConfigLaws.{sampled_setting, sampled_passes, counter_setting, setting_slim, good_cases, good_slim}
use Rattle.axis_sound.proofs.PassLaws.{Plain, plain, plain_from, bare_waits, sampled_axis, sampled_consistent}

-- The parts of the test of a sampled row.
sampled_parts : (r : Row) → is_sampled r ≡ true → Plain r × SampledSetting (config_in r) × (is_consistent (axis_of r) ≡ true)
sampled_parts r e =
    let h2 = both _ (is_consistent (axis_of r)) e in
    let h1 = both (is_plain r) _ h2.0 in
    (plain r h1.0, sampled_setting (config_in r) h1.1, h2.1)

-- The parts of the test of a counter row.
counter_parts : (r : Row) → is_counter r ≡ true → Plain r × CounterSetting (config_in r) × (field_of 14 50 r.w1 ≡ 0) × (r.w2 ≡ 0)
counter_parts r e =
    let h3 = both _ (eqb r.w2 0) e in
    let h2 = both _ (eqb (field_of 14 50 r.w1) 0) h3.0 in
    let h1 = both (is_plain r) _ h2.0 in
    (plain r h1.0, counter_setting (config_in r) h1.1, eqb-true (field_of 14 50 r.w1) 0 h2.1, eqb-true r.w2 0 h3.1)

-- A row with a position is not empty.
plain_full : (r : Row) → Plain r → is_empty r ≡ false
plain_full r p = rw (ne_eqb r.w0 0 (λ e. let no : ⊥ = omega (arith, p.word) in no))

-- A counter's kind is no sampled one.
counter_kind_lem : (k : ℕ) → k ≡ COUNTER → sampled_kind k ≡ false
counter_kind_lem k e = rw e

-- A counter row is no sampled one.
counter_unsampled : (r : Row) → is_counter r ≡ true → is_sampled r ≡ false
counter_unsampled r e =
    refuted (is_sampled r)
    (λ s. true≢false (sym (sampled_parts r s).1.kind ∙ counter_kind_lem (field_of 0 4 r.w1) (counter_parts r e).1.kind))

-- A row passes the test of its status.
status_passes : (r : Row) → passes (status_of r) r ≡ true
unfolding status_of passes
status_passes r = go (is_empty r) (is_sampled r) (is_counter r) refl refl refl
  where
    go : (e s q : Bool) → is_empty r ≡ e → is_sampled r ≡ s → is_counter r ≡ q →
        passes (cond e Empty (cond s Sampled (cond q Counter Broken))) r ≡ true
    go true s q he hs hq = he
    go false true q he hs hq = hs
    go false false true he hs hq = hq
    go false false false he hs hq = rw (he, hs, hq)

-- A row of a status passes the test of it.
passes_of : (s : Status) (r : Row) → status_of r ≡ s → passes s r ≡ true
passes_of s r e = ap (λ (t : Status). passes t r) (sym e) ∙ status_passes r

-- A row that passes the test of a status has that status.
status_of_lem : (s : Status) (r : Row) → passes s r ≡ true → status_of r ≡ s
unfolding status_of passes
status_of_lem Empty r e = rw e
status_of_lem Sampled r e = rw (plain_full r (sampled_parts r e).0, e)
status_of_lem Counter r e = rw (plain_full r (counter_parts r e).0, counter_unsampled r e, e)
status_of_lem Broken r e =
    let h2 = both _ (not (is_counter r)) e in
    let h1 = both (not (is_empty r)) _ h2.0 in
    rw (not-true (is_empty r) h1.0, not-true (is_sampled r) h1.1, not-true (is_counter r) h2.1)

-- An empty row is four zero words.
pub empty_gives : (r : Row) → status_of r ≡ Empty → r ≡ empty_row
unfolding passes
empty_gives r e =
    let h3 = both _ (eqb r.w3 0) (passes_of Empty r e) in
    let h2 = both _ (eqb r.w2 0) h3.0 in
    let h1 = both (eqb r.w0 0) (eqb r.w1 0) h2.0 in
    λ i. record {
      w0 = eqb-true r.w0 0 h1.0 i;
      w1 = eqb-true r.w1 0 h1.1 i;
      w2 = eqb-true r.w2 0 h2.1 i;
      w3 = eqb-true r.w3 0 h3.1 i;
    }

-- A row can hold a sampled axis.
pub sampled_held : {a : Axis} → SampledAxis a → Held a
sampled_held {a} s =
    let c = s.config in
    record {
      narrow = record {
        config = setting_slim c;
        run_a = omega (arith, s.run_a, c.deep);
        run_b = omega (arith, s.run_b, c.deep);
        run_z = omega (arith, s.run_z, c.deep);
        doubles = s.doubles;
        direction = omega (arith, s.pace.direction);
      };
      age = s.pace.age;
      period = omega (arith, s.pace.period);
      levels = s.levels;
      runs = s.runs;
    }

-- A row can hold a counter.
pub counter_held : {a : Axis} → CounterAxis a → Held a
counter_held {a} c =
    let slim : ConfigFits (counter_of a.config.width) = record { kind = lit< tt; depth = lit< tt; width = omega (arith, c.wide) } in
    subst Held (sym c.rest) (waiting_held slim a.word false)

-- The numbers of a counter are a counter's configuration.
pub counter_config_lem : {a : Axis} → CounterAxis a → let c = a.config in counter_config c.kind c.depth c.width c.turn ≡ true
counter_config_lem {a} c =
    let v = a.config.width in
    ap (λ (b : Axis). counter_config b.config.kind b.config.depth v b.config.turn) c.rest
    ∙ rw (le-leb 2 v c.narrow, le-leb v 32 c.wide)

-- The row of an axis that a row can hold has 0 in the bits without a name.
held_plain : (a : Axis) → Held a → Word a.word → a.config.turn < 2 ^ 32 → is_plain (row_of a) ≡ true
held_plain a h word turn =
    plain_from (row_of a) (record { word = word; low = back a h.narrow 14; high = back a h.narrow 17; turn = turn })

-- A row can hold what setup makes of any configuration.
pub setup_held : (c : Config) (w : ℕ) → good_config c.kind c.depth c.width c.turn ≡ true → Held (fresh_at c w)
setup_held c w e = waiting_held (good_slim c e) w false

-- An axis that waits, at a sampled configuration and any position, is a sampled axis.
pub waiting_sampled : {c : Config} {w : ℕ} → Word w → SampledSetting c → (armed : Bool) → SampledAxis (waiting c w armed)
waiting_sampled word s armed = record {
  word = word;
  config = s;
  run_a = s.shallow;
  run_b = s.shallow;
  run_z = s.shallow;
  apart = and-false armed;
  pace = record { direction = lit< tt; period = omega arith; resting = λ z. refl; age = lit< tt };
  index = λ e. absurd (true≢false (sym e));
  unprimed = λ u. refl;
  doubles = lit< tt;
  levels = refl;
  runs = refl;
}

-- What setup makes of a counter's configuration, at any position, is a counter.
pub setup_counter : {c : Config} {w : ℕ} → Word w → CounterSetting c → CounterAxis (fresh_at c w)
setup_counter {c} {w} word s = record {
  word = word;
  narrow = s.narrow;
  wide = s.wide;
  rest = ap (λ (d : Config). fresh_at d w) (same_config (record { kind = s.kind; depth = s.depth; width = refl; turn = s.turn }));
}

-- A row has a status exactly where it passes the test of that status.
pub status_exactly : (s : Status) (r : Row) → (status_of r ≡ s) ↔ (passes s r ≡ true)
status_exactly s r = (passes_of s r, status_of_lem s r)

-- No row passes the tests of two statuses.
pub exclusive : (r : Row) (s t : Status) → passes s r ≡ true → passes t r ≡ true → s ≡ t
exclusive r s t p q = sym (status_of_lem s r p) ∙ status_of_lem t r q

-- The axis of a sampled row is within the limits of one.
pub sampled_gives : (r : Row) → status_of r ≡ Sampled → SampledAxis (axis_of r)
unfolding passes
sampled_gives r e =
    let h = sampled_parts r (passes_of Sampled r e) in
    sampled_axis (axis_of r) (row_held r) h.0.word h.1 h.2

-- An axis within those limits makes a sampled row.
pub sampled_from_lem : {a : Axis} → SampledAxis a → status_of (row_of a) ≡ Sampled
unfolding passes
sampled_from_lem {a} s =
    let h = sampled_held s in
    status_of_lem Sampled (row_of a)
    (ap (λ (b : Axis).
    is_plain (row_of a) && sampled_config b.config.kind b.config.depth b.config.width b.config.turn && is_consistent b)
    (comes_back a h)
    ∙ rw (held_plain a h s.word s.config.turn, sampled_passes a.config s.config, sampled_consistent s))

-- The axis of a counter row is a counter as setup leaves it, at some position.
pub counter_gives : (r : Row) → status_of r ≡ Counter → CounterAxis (axis_of r)
unfolding passes
counter_gives r e =
    let h = counter_parts r (passes_of Counter r e) in
    let primed = part_clear 14 49 0 r.w1 h.2 in
    let armed = part_clear 14 48 1 r.w1 h.2 in
    let waits = bare_waits r h.0 primed (part_zero 14 0 48 2 r.w1 h.2) (ap (field_of 0 32) h.3) (ap (field_of 32 32) h.3) in
    let same = same_config (record { kind = h.1.kind; depth = h.1.depth; width = refl; turn = h.1.turn }) in
    record {
      word = h.0.word;
      narrow = h.1.narrow;
      wide = h.1.wide;
      rest = waits ∙ (λ i. waiting (same i) r.w0 (armed i));
    }

-- Such a counter makes a counter row.
pub counter_from_lem : {a : Axis} → CounterAxis a → status_of (row_of a) ≡ Counter
unfolding passes
counter_from_lem {a} c =
    let h = counter_held c in
    let turn : a.config.turn ≡ 0 = ap (λ (b : Axis). b.config.turn) c.rest in
    let high : (v : ℕ) → v ≤ 32 → field_of 14 50 (word1_of (fresh_at (counter_of v) 0)) ≡ 0 = λ v e. omega arith in
    status_of_lem Counter (row_of a)
    (ap (λ (b : Axis). is_plain (row_of a) && counter_config b.config.kind b.config.depth b.config.width b.config.turn
    && eqb (field_of 14 50 (word1_of a)) 0 && eqb (word2_of a) 0) (comes_back a h)
    ∙ rw (
      held_plain a h c.word (omega arith),
      counter_config_lem c,
      ap (λ (b : Axis). field_of 14 50 (word1_of b)) c.rest ∙ high a.config.width c.wide,
      ap word2_of c.rest,
    ))

-- Setup leaves a sound row, of the status that its kind says, at any position.
pub setup_sound : (c : Config) (w : ℕ) → Word w → good_config c.kind c.depth c.width c.turn ≡ true →
    status_of (row_of (fresh_at c w)) ≡ cond (sampled_kind c.kind) Sampled Counter
setup_sound c w word e =
    ⊎_elim
    (λ s. rw s.kind (sampled_from_lem (waiting_sampled word s false)))
    (λ s. rw (counter_kind_lem c.kind s.kind) (counter_from_lem (setup_counter word s)))
    (good_cases c e)

-- Erase leaves an empty row, four zero words.
pub erase_sound : (row_of blank ≡ empty_row) × (status_of (row_of blank) ≡ Empty)
unfolding status_of
erase_sound = (refl, refl)

-- A sound row, unpacked and packed, is the same four words.
pub packed_again : (r : Row) → Words r → (status_of r ≡ Broken → ⊥) → row_of (axis_of r) ≡ r
unfolding passes
packed_again r h sound = go (status_of r) refl
  where
    go : (s : Status) → status_of r ≡ s → row_of (axis_of r) ≡ r
    go Empty e = ap (λ (q : Row). row_of (axis_of q)) (empty_gives r e) ∙ sym (empty_gives r e)
    go Sampled e = let p = (sampled_parts r (passes_of Sampled r e)).0 in row_again r h p.low p.high
    go Counter e = let p = (counter_parts r (passes_of Counter r e)).0 in row_again r h p.low p.high
    go Broken e = absurd (sound e)
