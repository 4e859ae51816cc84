-- What preset, arm and acknowledge do to the words of every row that they take, bit by bit: docs/RULES.md, "Calls that name one axis".
use Rattle.std.specs.Prelude.{Result, Ok, Err}
use Prim.Native.Nat.{ℕ, ◌+◌, ◌*◌, ◌^◌}
use native.Mathlib.Omega.{arith}
use mathlib.Core.Path.{◌≡◌, refl, sym, subst, ◌∙◌}
use mathlib.Core.Logic.{⊎_elim}
use lib.IntN.{ℤ}
use Rattle.position.specs.Position.{word_of}
use Rattle.refusal.specs.declared.Refusal.TheVariants.{Kind as KIND}
use Rattle.fields.specs.Field.{field_of, flag_of, bit_of}
use Rattle.refusal.specs.declared.Refusal.{Refusal}
use Rattle.axis.specs.Row.{axis_of, row_of, Words}
use Rattle.axis.specs.declared.row.Row.{Row}
use Rattle.axis_sound.specs.Sound.{status_of}
use Rattle.axis_sound.specs.declared.Status.{Status}
use Rattle.axis_sound.specs.declared.Status.TheVariants.{Sampled, Counter, Broken}
use Rattle.axis_sound.proofs.SoundLaws.{packed_again}
use Rattle.row_calls.specs.Change.{changed, preset_axis, arm_axis, acknowledge_axis}
use Rattle.row_calls.specs.Calls.{place_row, preset_row, arm_row, acknowledge_row}
use Rattle.row_calls.proofs.StatusLaws.{live}
use Rattle.row_calls.proofs.ChangeLaws.{placed, kept_not}

-- Bit k of a word, in its place.
abbrev bit_at : ℕ → ℕ → ℕ
bit_at k w = bit_of (flag_of k w) * 2 ^ k

-- The row q is the row r with another word 0, and with bits added to word 1 and others cleared there.
pub record Rewrites (r q : Row) (word added cleared : ℕ) : Type 0 where
  pub w0 : q.w0 ≡ word
  pub w1 : q.w1 + cleared ≡ r.w1 + added
  pub w2 : q.w2 ≡ r.w2
  pub w3 : q.w3 ≡ r.w3

-- What a call does to a row is what it does to the row's axis, packed.
rewrites : {r q b : Row} {s : Status} {word added cleared : ℕ} → Words r → status_of r ≡ s → (s ≡ Broken → ⊥) → ◌≡◌ {A = Result Row Refusal} (Ok b) (Ok q) →
    Rewrites (row_of (axis_of r)) b word added cleared → Rewrites r q word added cleared
rewrites {r} {q} {b} {s} {word} {added} {cleared} h e sound d w =
    let made : b ≡ q = cc in
    let again = packed_again r h (λ x. sound (sym e ∙ x)) in
    subst (λ (x : Row). Rewrites x q word added cleared) again
    (subst (λ (x : Row). Rewrites (row_of (axis_of r)) x word added cleared) made w)

-- Neither a sampled row nor a counter is broken.
sampled_sound : Sampled ≡ Broken → ⊥
sampled_sound e = let z : ◌≡◌ {A = ℕ} 0 1 = cc in omega arith

counter_sound : Counter ≡ Broken → ⊥
counter_sound e = let z : ◌≡◌ {A = ℕ} 0 1 = cc in omega arith

preset_axis_lem : (p : ℤ) (r : Row) →
    Rewrites (row_of (axis_of r)) (row_of (preset_axis p (axis_of r))) (word_of p) 0 (bit_at 16 r.w1 + bit_at 17 r.w1)
unfolding changed
preset_axis_lem p r = record { w0 = refl; w1 = omega arith; w2 = refl; w3 = refl }

-- Preset sets word 0 to the position + 2^62 and clears bits 16 and 17 of word 1, HOMED and RANGE, and nothing else.
pub preset_words : (p : ℤ) (r q : Row) → Words r → preset_row p r ≡ Ok q →
    Rewrites r q (word_of p) 0 (bit_at 16 r.w1 + bit_at 17 r.w1)
unfolding preset_row
preset_words p r q h e =
    ⊎_elim
    (λ s. rewrites h s.0 sampled_sound (placed p r q s.1).1 (preset_axis_lem p r))
    (λ s. rewrites h s.0 counter_sound (placed p r q s.1).1 (preset_axis_lem p r))
    (live Err (place_row p r) (place_row p r) (Ok q) (kept_not q) (status_of r) e)

arm_axis_lem : (r : Row) →
    Rewrites (row_of (axis_of r)) (row_of (arm_axis (axis_of r))) r.w0 (2 ^ 15) (bit_at 15 r.w1 + bit_at 16 r.w1)
unfolding changed
arm_axis_lem r = record { w0 = refl; w1 = omega arith; w2 = refl; w3 = refl }

-- Arm sets bit 15 of word 1, ARMED, and clears bit 16, HOMED, and nothing else.
pub arm_words : (r q : Row) → Words r → arm_row r ≡ Ok q → Rewrites r q r.w0 (2 ^ 15) (bit_at 15 r.w1 + bit_at 16 r.w1)
unfolding arm_row
arm_words r q h e =
    ⊎_elim
    (λ s. rewrites h s.0 sampled_sound s.1 (arm_axis_lem r))
    (λ s. absurd (kept_not q KIND s.1))
    (live Err (Ok (row_of (arm_axis (axis_of r)))) (Err KIND) (Ok q) (kept_not q) (status_of r) e)

acknowledge_axis_lem : (r : Row) →
    Rewrites (row_of (axis_of r)) (row_of (acknowledge_axis (axis_of r))) r.w0 0 (bit_at 18 r.w1 + field_of 32 16 r.w1 * 2 ^ 32)
unfolding changed
acknowledge_axis_lem r = record { w0 = refl; w1 = omega arith; w2 = refl; w3 = refl }

-- Acknowledge clears bit 18 of word 1, INDEX, and bits 32 to 47, doubles, and nothing else.
pub acknowledge_words : (r q : Row) → Words r → acknowledge_row r ≡ Ok q →
    Rewrites r q r.w0 0 (bit_at 18 r.w1 + field_of 32 16 r.w1 * 2 ^ 32)
unfolding acknowledge_row
acknowledge_words r q h e =
    ⊎_elim
    (λ s. rewrites h s.0 sampled_sound s.1 (acknowledge_axis_lem r))
    (λ s. absurd (kept_not q KIND s.1))
    (live Err (Ok (row_of (acknowledge_axis (axis_of r)))) (Err KIND) (Ok q) (kept_not q) (status_of r) e)
