-- What each test of a row or of an axis says of its numbers, and what passes it.
use Prim.Native.Nat.{ℕ, ◌-◌, ◌^◌, ◌<◌}
use native.Mathlib.Omega.{arith}
use mathlib.Core.Path.{◌≡◌, refl, sym, ap, ◌∙◌}
use mathlib.Core.Bool.{Bool, true, false, not, ◌&&◌, ◌||◌}
use mathlib.Core.List.{List, [], ◌∷◌, map}
use lib.Dec.{eqb, leb, ltb}
use lib.ListN.{get_or, drop}
use borrow.Author.Tests.{eqb-true, eqb-false, leb-true, ltb-true, not-true, not-false, eq-eqb, ne_eqb, le-leb, lt-ltb}
use Rattle.position.specs.Position.{is_word, Word}
use Rattle.position.proofs.PositionLaws.{word_gives, word_passes}
use Rattle.fields.specs.Field.{field_of, flag_of, bit_of}
use Rattle.fields.specs.Layout.{join}
use Rattle.fields.proofs.LayoutLaws.{zero_split, split_zero}
use Rattle.axis.specs.declared.row.Axis.{Axis}
use Rattle.axis.specs.declared.row.Pace.{Pace}
use Rattle.axis.specs.declared.row.Row.{Row}
use Rattle.axis.specs.Config.{sampled_config, SampledSetting}
use Rattle.axis.specs.Row.{layout, axis_of, fields_of, word1_of, word2_of, waiting, Waits, Held}
use Rattle.axis.proofs.RowLaws.{row_held, waiting_held, fields_again, same_row}
use Rattle.axis.proofs.TestLaws.{both, otherwise, either, same_test}
use Rattle.axis_sound.specs.Sound.{is_plain, is_waiting, is_short, is_paced, is_consistent, is_sampled, low_row, SoundPace, SampledAxis}

-- What the plain test says of a row.
pub record Plain (r : Row) : Type 0 where
  pub word : Word r.w0
  pub low : field_of 31 1 r.w1 ≡ 0
  pub high : field_of 50 14 r.w1 ≡ 0
  pub turn : r.w3 < 2 ^ 32

-- A row that passes the plain test is plain.
pub plain : (r : Row) → is_plain r ≡ true → Plain r
plain r e =
    let h3 = both _ (ltb r.w3 (2 ^ 32)) e in
    let h2 = both _ (eqb (field_of 50 14 r.w1) 0) h3.0 in
    let h1 = both (is_word r.w0) (eqb (field_of 31 1 r.w1) 0) h2.0 in
    record {
      word = word_gives r.w0 h1.0;
      low = eqb-true (field_of 31 1 r.w1) 0 h1.1;
      high = eqb-true (field_of 50 14 r.w1) 0 h2.1;
      turn = ltb-true r.w3 (2 ^ 32) h3.1;
    }

-- A plain row passes the plain test.
pub plain_from : (r : Row) → Plain r → is_plain r ≡ true
plain_from r p =
    rw (
      word_passes r.w0 p.word,
      eq-eqb (field_of 31 1 r.w1) 0 p.low,
      eq-eqb (field_of 50 14 r.w1) 0 p.high,
      lt-ltb r.w3 (2 ^ 32) p.turn,
    )

-- A row whose word 3 is below 2 ^ 32 has no more of it than the low 32 bits.
pub low_same : (r : Row) → r.w3 < 2 ^ 32 → low_row r ≡ r
low_same r h =
    let e : field_of 0 32 r.w3 ≡ r.w3 = omega arith in
    λ i. record { w0 = r.w0; w1 = r.w1; w2 = r.w2; w3 = e i }

-- An axis that passes the waiting test waits.
pub waiting_gives : {a : Axis} → Held a → is_waiting a ≡ true → Waits a
waiting_gives {a} h e =
    let b = waiting a.config a.word a.flags.armed in
    let k = both (eqb (word1_of a) (word1_of b)) (eqb (word2_of a) (word2_of b)) e in
    same_row h (waiting_held h.narrow.config a.word a.flags.armed) (λ i. record {
      w0 = a.word;
      w1 = eqb-true (word1_of a) (word1_of b) k.0 i;
      w2 = eqb-true (word2_of a) (word2_of b) k.1 i;
      w3 = a.config.turn;
    })

-- An axis that waits passes it.
pub waiting_from : {a : Axis} → Waits a → is_waiting a ≡ true
waiting_from {a} h =
    let b = waiting a.config a.word a.flags.armed in
    λ i. eq-eqb (word1_of a) (word1_of b) (ap word1_of h) i && eq-eqb (word2_of a) (word2_of b) (ap word2_of h) i

-- The fields of word 1 from HOMED up.
abbrev from_homed : List ℕ
from_homed = drop 5 layout

-- In a plain row, an axis that waits is 0 in bits 16 to 63 of word 1.
waiting_bare : (r : Row) → Plain r → Waits (axis_of r) → field_of 16 48 r.w1 ≡ 0
waiting_bare r p h = split_zero 16 from_homed r.w1 (ap (drop 5) (sym (fields_again r p.low p.high) ∙ ap fields_of h))

-- An axis waits that is not primed and is 0 there, and in age and period.
pub bare_waits : (r : Row) → Plain r → flag_of 14 r.w1 ≡ false → field_of 16 48 r.w1 ≡ 0 →
    (axis_of r).pace.age ≡ 0 → (axis_of r).pace.period ≡ 0 → Waits (axis_of r)
bare_waits r p primed z age period =
    let a = axis_of r in
    let h = row_held r in
    let again = fields_again r p.low p.high in
    let tail : drop 5 (fields_of a) ≡ map (λ (k : ℕ). 0) from_homed = ap (drop 5) again ∙ zero_split 16 from_homed r.w1 z in
    same_row h (waiting_held h.narrow.config a.word a.flags.armed) (λ i. record {
      w0 = r.w0;
      w1 = join 0 layout (a.config.kind ∷ a.config.depth ∷ a.config.width ∷ bit_of (primed i) ∷ bit_of a.flags.armed ∷ tail i);
      w2 = join 0 (32 ∷ 32 ∷ []) (age i ∷ period i ∷ []);
      w3 = r.w3;
    })

-- The test of those bits, of age and of period is the waiting test of a plain row's axis that is not primed.
abbrev is_bare : ℕ → Axis → Bool
is_bare w1 a = eqb (field_of 16 48 w1) 0 && eqb a.pace.age 0 && eqb a.pace.period 0

ready_test : (r : Row) → Plain r → (b : Bool) → (axis_of r).flags.primed ≡ b → b || is_bare r.w1 (axis_of r) ≡ b || is_waiting (axis_of r)
ready_test r p true e = refl
ready_test r p false e =
    let a = axis_of r in
    same_test (is_bare r.w1 a) (is_waiting a)
    (λ b.
    let h2 = both _ (eqb a.pace.period 0) b in
    let h1 = both (eqb (field_of 16 48 r.w1) 0) (eqb a.pace.age 0) h2.0 in
    let z = eqb-true (field_of 16 48 r.w1) 0 h1.0 in
    waiting_from (bare_waits r p e z (eqb-true a.pace.age 0 h1.1) (eqb-true a.pace.period 0 h2.1)))
    (λ b.
    let h = waiting_gives (row_held r) b in
    rw (
      eq-eqb (field_of 16 48 r.w1) 0 (waiting_bare r p h),
      eq-eqb a.pace.age 0 (ap (λ (x : Axis). x.pace.age) h),
      eq-eqb a.pace.period 0 (ap (λ (x : Axis). x.pace.period) h),
    ))

-- The test of a sampled row on what it unpacks to, in the code's order.
abbrev is_formed : Row → Axis → Bool
is_formed r a =
    let c = a.config in
    is_plain r && sampled_config c.kind c.depth c.width r.w3 && (is_short a && not (a.flags.armed && a.flags.homed))

abbrev sampled_by : Row → Axis → Bool → Bool
sampled_by r a ready = is_formed r a && is_paced a.pace && (not a.flags.index || ltb 0 a.config.turn) && ready

regroup : (p c s b i f : Bool) → p && c && s && b && i && f ≡ p && c && (s && b && i && f)
regroup true true s b i f = refl
regroup true false s b i f = refl
regroup false c s b i f = refl

pub sampled_by_lem : (r : Row) (a : Axis) → a ≡ axis_of (low_row r) → sampled_by r a (a.flags.primed || is_bare r.w1 a) ≡ is_sampled r
sampled_by_lem r a h = go (is_plain r) refl
  where
    go : (b : Bool) → is_plain r ≡ b → sampled_by r a (a.flags.primed || is_bare r.w1 a) ≡ is_sampled r
    go true e =
        let p = plain r e in
        ap (λ (x : Axis). sampled_by r x (x.flags.primed || is_bare r.w1 x)) (h ∙ ap axis_of (low_same r p.turn))
        ∙ ap (sampled_by r (axis_of r)) (ready_test r p (axis_of r).flags.primed refl)
        ∙ regroup (is_plain r) _ _ _ _ _
    go false e = rw e

-- A pace that passes its test is within its limits.
sound_pace : (p : Pace) → p.direction < 2 ^ 2 → p.age < 2 ^ 32 → is_paced p ≡ true → SoundPace p
sound_pace p direction age e =
    let h2 = both _ (not (eqb p.direction 0) || eqb p.period 0) e in
    let h1 = both _ (leb p.period (2 ^ 32 - 2)) h2.0 in
    let not3 : p.direction ≡ 3 → ⊥ = eqb-false p.direction 3 (not-true (eqb p.direction 3) h1.0) in
    record {
      direction = omega arith;
      period = leb-true p.period (2 ^ 32 - 2) h1.1;
      resting = λ z.
          eqb-true p.period 0 (otherwise (not (eqb p.direction 0)) (eqb p.period 0) h2.1 (rw (eq-eqb p.direction 0 z)));
      age = age;
    }

-- A pace within its limits passes its test.
pace_passes : (p : Pace) → SoundPace p → is_paced p ≡ true
pace_passes p s =
    rw (
      ne_eqb p.direction 3 (λ e. let no : ⊥ = omega (arith, s.direction) in no),
      le-leb p.period (2 ^ 32 - 2) s.period,
      either (not (eqb p.direction 0)) (eqb p.period 0)
          (λ z. eq-eqb p.period 0 (s.resting (eqb-true p.direction 0 (not-false (eqb p.direction 0) z)))),
    )

-- An axis that passes the tests of a sampled one is within its limits.
pub sampled_axis : (a : Axis) → Held a → Word a.word → SampledSetting a.config → is_consistent a ≡ true → SampledAxis a
sampled_axis a held word config e =
    let d = a.config.depth in
    let f = a.flags in
    let h4 = both _ (f.primed || is_waiting a) e in
    let h3 = both _ (not f.index || ltb 0 a.config.turn) h4.0 in
    let h2 = both _ (is_paced a.pace) h3.0 in
    let h1 = both _ (not (f.armed && f.homed)) h2.0 in
    let s2 = both _ (ltb (get_or a.runs 2 0) d) h1.0 in
    let s1 = both _ (ltb (get_or a.runs 1 0) d) s2.0 in
    record {
      word = word;
      config = config;
      run_a = ltb-true (get_or a.runs 0 0) d s1.0;
      run_b = ltb-true (get_or a.runs 1 0) d s1.1;
      run_z = ltb-true (get_or a.runs 2 0) d s2.1;
      apart = not-true (f.armed && f.homed) h1.1;
      pace = sound_pace a.pace held.narrow.direction held.age h2.1;
      index = λ i. ltb-true 0 a.config.turn (otherwise (not f.index) (ltb 0 a.config.turn) h3.1 (rw i));
      unprimed = λ u. waiting_gives held (otherwise f.primed (is_waiting a) h4.1 u);
      doubles = held.narrow.doubles;
      levels = held.levels;
      runs = held.runs;
    }

-- A sampled axis passes the test beyond its configuration.
pub sampled_consistent : {a : Axis} → SampledAxis a → is_consistent a ≡ true
sampled_consistent {a} s =
    let d = a.config.depth in
    rw (
      lt-ltb (get_or a.runs 0 0) d s.run_a,
      lt-ltb (get_or a.runs 1 0) d s.run_b,
      lt-ltb (get_or a.runs 2 0) d s.run_z,
      s.apart,
      pace_passes a.pace s.pace,
      either (not a.flags.index) (ltb 0 a.config.turn) (λ i. lt-ltb 0 a.config.turn (s.index (not-false a.flags.index i))),
      either a.flags.primed (is_waiting a) (λ u. waiting_from (s.unprimed u)),
    )
