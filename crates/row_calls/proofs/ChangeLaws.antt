-- The laws of preset, arm and acknowledge: a sound row stays what it is, and holds the axis that the call makes.
use Rattle.std.specs.Prelude.{Result, Ok, Err}
use Prim.Native.Nat.{ℕ, ◌<◌, ◌^◌}
use native.Mathlib.Omega.{arith}
use mathlib.Core.Path.{◌≡◌, refl, sym, ap, subst}
use mathlib.Core.Logic.{⊎_elim}
use mathlib.Core.Bool.{true, false, ◌&&◌, and-false, true≢false}
use lib.Dec.{lit<}
use lib.IntN.{ℤ}
use Rattle.integers.proofs.Balance.{Decided, yes, no, test}
use Rattle.position.specs.Position.{in_range, Word, word_of}
use Rattle.position.proofs.PositionLaws.{word_holds}
use Rattle.refusal.specs.declared.Refusal.{Refusal}
use Rattle.refusal.specs.declared.Refusal.TheVariants.{Kind as KIND, Value as VALUE}
use Rattle.axis.specs.Row.{axis_of, row_of, Waits, fresh_at}
use Rattle.axis_sound.specs.Sound.{status_of, SampledAxis, CounterAxis, counter_of}
use Rattle.axis.specs.declared.row.Axis.{Axis}
use Rattle.axis.specs.declared.row.Flags.{Flags}
use Rattle.axis.specs.declared.row.Row.{Row}
use Rattle.axis_sound.specs.declared.Status.{Status}
use Rattle.axis_sound.specs.declared.Status.TheVariants.{Sampled, Counter}
use Rattle.axis.proofs.RowLaws.{comes_back, held_words}
use Rattle.axis_sound.proofs.SoundLaws.{sampled_held, sampled_gives, sampled_from_lem, counter_held, counter_gives, counter_from_lem}
use Rattle.row_calls.specs.Change.{changed, preset_axis, arm_axis, acknowledge_axis, Holds}
use Rattle.row_calls.specs.Calls.{by_status, place_row, preset_row, arm_row, acknowledge_row}
use Rattle.row_calls.proofs.StatusLaws.{live}

-- ---- axes

-- A sampled axis stays one where the change keeps what the limits of one say of the word, the flags and the doubles.
sampled_changed : {x : Axis} → SampledAxis x → (word : ℕ) (flags : Flags) (doubles : ℕ) → Word word → flags.armed && flags.homed ≡ false →
    (flags.index ≡ true → 0 < x.config.turn) → doubles < 2 ^ 16 → (flags.primed ≡ false → Waits (changed x word flags doubles)) →
    SampledAxis (changed x word flags doubles)
unfolding changed
sampled_changed s word flags doubles at apart counted few waits = record {
  word = at;
  config = s.config;
  run_a = s.run_a;
  run_b = s.run_b;
  run_z = s.run_z;
  apart = apart;
  pace = s.pace;
  index = counted;
  unprimed = waits;
  doubles = few;
  levels = s.levels;
  runs = s.runs;
}

-- A preset within the range keeps a sampled axis.
pub preset_sampled : (x : Axis) (p : ℤ) → in_range p ≡ true → SampledAxis x → SampledAxis (preset_axis p x)
unfolding changed
preset_sampled x p i s =
    sampled_changed s (word_of p) (preset_axis p x).flags x.doubles (word_holds p i) (and-false x.flags.armed) s.index s.doubles
    (λ u. ap (preset_axis p) (s.unprimed u))

-- Arming keeps a sampled axis.
pub arm_sampled : (x : Axis) → SampledAxis x → SampledAxis (arm_axis x)
unfolding changed
arm_sampled x s =
    sampled_changed s x.word (arm_axis x).flags x.doubles s.word refl s.index s.doubles (λ u. ap arm_axis (s.unprimed u))

-- An acknowledgement keeps a sampled axis.
pub acknowledge_sampled : (x : Axis) → SampledAxis x → SampledAxis (acknowledge_axis x)
unfolding changed
acknowledge_sampled x s =
    sampled_changed s x.word (acknowledge_axis x).flags 0 s.word s.apart (λ e. absurd (true≢false (sym e))) (lit< tt)
    (λ u. ap acknowledge_axis (s.unprimed u))

-- A counter at another position is a counter.
pub counter_moved : (x : Axis) (word : ℕ) → Word word → CounterAxis x → (y : Axis) → y ≡ fresh_at (counter_of x.config.width) word →
    CounterAxis y
counter_moved x word at k y e = subst CounterAxis (sym e) (record { word = at; narrow = k.narrow; wide = k.wide; rest = refl })

-- A preset within the range keeps a counter.
pub preset_counter : (x : Axis) (p : ℤ) → in_range p ≡ true → CounterAxis x → CounterAxis (preset_axis p x)
unfolding changed
preset_counter x p i k = counter_moved x (word_of p) (word_holds p i) k (preset_axis p x) (ap (preset_axis p) k.rest)

-- ---- rows

-- The row of a sampled axis holds it.
pub sampled_holds : (a : Axis) → SampledAxis a → Holds (row_of a) Sampled a
sampled_holds a s =
    let h = sampled_held s in
    let words = held_words a h (omega (arith, s.word)) (omega (arith, s.config.turn)) in
    record { status = sampled_from_lem s; axis = comes_back a h; words = words }

-- The row of a counter holds it.
pub counter_holds : (a : Axis) → CounterAxis a → Holds (row_of a) Counter a
counter_holds a k =
    let h = counter_held k in
    record {
      status = counter_from_lem k;
      axis = comes_back a h;
      words = held_words a h (omega (arith, k.word)) (omega (arith, ap (λ (b : Axis). b.config.turn) k.rest));
    }

-- A row that was made and the row that was told are one.
pub to_one : {q r : Row} {s : Status} {a : Axis} → ◌≡◌ {A = Result Row Refusal} (Ok r) (Ok q) → Holds r s a → Holds q s a
to_one {q} {r} {s} {a} e h = let d : r ≡ q = cc in subst (λ (t : Row). Holds t s a) d h

-- What is refused makes no row.
pub kept_not : (q : Row) (e : Refusal) → Err e ≡ Ok q → ⊥
kept_not q e h = let z : ◌≡◌ {A = ℕ} 0 1 = cc in omega arith

-- A preset that is accepted.
pub placed : (p : ℤ) (r q : Row) → place_row p r ≡ Ok q → (in_range p ≡ true) × (◌≡◌ {A = Result Row Refusal} (Ok (row_of (preset_axis p (axis_of r)))) (Ok q))
unfolding place_row
placed p r q e = go (test (in_range p))
  where
    go : Decided (in_range p) → (in_range p ≡ true) × (◌≡◌ {A = Result Row Refusal} (Ok (row_of (preset_axis p (axis_of r)))) (Ok q))
    go (yes i) = (i, rw i at e)
    go (no i) = absurd (kept_not q VALUE (rw i at e))

-- A call on sampled rows only, that keeps a sampled axis one, keeps the row sampled.
sampled_only : (change : Axis → Axis) → ((x : Axis) → SampledAxis x → SampledAxis (change x)) → (r q : Row) →
    by_status Err (Ok (row_of (change (axis_of r)))) (Err KIND) (status_of r) ≡ Ok q → Holds q (status_of r) (change (axis_of r))
sampled_only change keeps r q e =
    ⊎_elim
    (λ h. rw h.0 (to_one h.1 (sampled_holds (change (axis_of r)) (keeps (axis_of r) (sampled_gives r h.0)))))
    (λ h. absurd (kept_not q KIND h.1))
    (live Err (Ok (row_of (change (axis_of r)))) (Err KIND) (Ok q) (kept_not q) (status_of r) e)

-- A preset that is accepted leaves the row what it was, holding the axis with that position.
pub preset_keeps : (p : ℤ) (r q : Row) → preset_row p r ≡ Ok q → Holds q (status_of r) (preset_axis p (axis_of r))
unfolding preset_row
preset_keeps p r q e =
    ⊎_elim
    (λ h. let t = placed p r q h.1 in
    rw h.0 (to_one t.1 (sampled_holds (preset_axis p (axis_of r)) (preset_sampled (axis_of r) p t.0 (sampled_gives r h.0)))))
    (λ h. let t = placed p r q h.1 in
    rw h.0 (to_one t.1 (counter_holds (preset_axis p (axis_of r)) (preset_counter (axis_of r) p t.0 (counter_gives r h.0)))))
    (live Err (place_row p r) (place_row p r) (Ok q) (kept_not q) (status_of r) e)

-- An arm that is accepted leaves the row sampled, holding the armed axis.
pub arm_keeps : (r q : Row) → arm_row r ≡ Ok q → Holds q (status_of r) (arm_axis (axis_of r))
unfolding arm_row
arm_keeps = sampled_only arm_axis arm_sampled

-- An acknowledgement that is accepted leaves the row sampled, holding the acknowledged axis.
pub acknowledge_keeps : (r q : Row) → acknowledge_row r ≡ Ok q → Holds q (status_of r) (acknowledge_axis (axis_of r))
unfolding acknowledge_row
acknowledge_keeps = sampled_only acknowledge_axis acknowledge_sampled
