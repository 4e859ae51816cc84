-- Angles, and what a move of at most two quarter steps is to x4's table, on an axis at depth 1: docs/RULES.md, "A port sample", Decode.
use mathlib.Core.Path.{◌≡◌, refl, sym, ◌∙◌, ap, ap₂}
use mathlib.Core.Bool.{false, true≢false}
use mathlib.Core.List.{List, ◌∷◌}
use Prim.Native.Nat.{ℕ, zero, suc, ◌+◌, ◌%◌, ◌≤◌, ◌<◌}
use native.Mathlib.Omega.{arith}
use lib.Dec.{eqb}
use lib.ListN.{get_or}
use lib.IntN.{ℤ, pos, negsuc, nat_abs, ◌+ℤ◌, ◌-ℤ◌}
use Rattle.integers.specs.Integer.{mod_z}
use Rattle.integers.proofs.Balance.{turns, mod_turns, mod_z_lt, bal_add, bal_sub, eq_z}
use Rattle.fields.specs.Field.{flag_of}
use Rattle.axis.specs.Kind.{X4}
use Rattle.axis.specs.declared.row.Axis.{Axis}
use Rattle.axis_filter.specs.Lines.{A, B, level_of}
use Rattle.axis_decode.specs.Decode.{code, x4, table_of, entry, worth, is_e}
use Rattle.axis_decode.specs.declared.Move.{Move}
use Rattle.axis_decode.specs.declared.Move.TheVariants.{Still, Forward, Back, Double}
use Rattle.history_axis.specs.Acts.{Act, sampled}
use Rattle.history_axis.specs.Entries.{code_at}
use Rattle.history_axis.specs.Shaft.{cycle, angle_code, ShaftSample, raw_at}
use Rattle.history_axis.proofs.LevelsLaws.{level_one}

-- ---- angles modulo 4

-- What holds at 0, 1, 2 and 3 holds below 4.
below_four : (P : ℕ → Type 0) → P 0 → P 1 → P 2 → P 3 → (i : ℕ) → i < 4 → P i
below_four P p q r s zero h = p
below_four P p q r s (suc zero) h = q
below_four P p q r s (suc (suc zero)) h = r
below_four P p q r s (suc (suc (suc zero))) h = s
below_four P p q r s (suc (suc (suc (suc i)))) h = absurd (let z : ⊥ = omega arith in z)

mod_add : (a b : ℤ) → mod_z (a +ℤ b) 4 ≡ (mod_z a 4 + mod_z b 4) % 4
mod_add a b =
    let s : 0 < 4 = omega arith in
    let u = turns a s in
    let v = turns b s in
    mod_turns s (record { up = u.up + v.up; down = u.down + v.down; is = omega (arith, u.is, v.is, bal_add a b) })

onto : (a b : ℤ) → a +ℤ (b -ℤ a) ≡ b
onto a b = eq_z (a +ℤ (b -ℤ a)) b (omega (arith, bal_add a (b -ℤ a), bal_sub b a))

-- ---- a move of at most two quarter steps

-- The entry that a move has to have.
unfoldable pub expected : ℤ → Move
expected (pos zero) = Still
expected (pos (suc zero)) = Forward
expected (pos (suc (suc n))) = Double
expected (negsuc zero) = Back
expected (negsuc (suc n)) = Double

-- The table has it at every angle.
entry_at : (d : ℤ) → nat_abs d ≤ 2 → (i : ℕ) → i < 4 → entry X4 (get_or cycle i 0) (get_or cycle ((i + mod_z d 4) % 4) 0) ≡ expected d
unfolding expected cycle mod_z entry table_of x4
entry_at (pos zero) g = below_four (λ i. entry X4 (get_or cycle i 0) (get_or cycle ((i + 0) % 4) 0) ≡ Still) refl refl refl refl
entry_at (pos (suc zero)) g = below_four (λ i. entry X4 (get_or cycle i 0) (get_or cycle ((i + 1) % 4) 0) ≡ Forward) refl refl refl refl
entry_at (pos (suc (suc zero))) g = below_four (λ i. entry X4 (get_or cycle i 0) (get_or cycle ((i + 2) % 4) 0) ≡ Double) refl refl refl refl
entry_at (pos (suc (suc (suc n)))) g = absurd (let z : ⊥ = omega arith in z)
entry_at (negsuc zero) g = below_four (λ i. entry X4 (get_or cycle i 0) (get_or cycle ((i + 3) % 4) 0) ≡ Back) refl refl refl refl
entry_at (negsuc (suc zero)) g = below_four (λ i. entry X4 (get_or cycle i 0) (get_or cycle ((i + 2) % 4) 0) ≡ Double) refl refl refl refl
entry_at (negsuc (suc (suc n))) g = absurd (let z : ⊥ = omega arith in z)

-- It is E for a move of two.
pub expected_double : (d : ℤ) → nat_abs d ≤ 2 → is_e (expected d) ≡ eqb (nat_abs d) 2
unfolding expected is_e
expected_double (pos zero) g = refl
expected_double (pos (suc zero)) g = refl
expected_double (pos (suc (suc zero))) g = refl
expected_double (pos (suc (suc (suc n)))) g = absurd (let z : ⊥ = omega arith in z)
expected_double (negsuc zero) g = refl
expected_double (negsuc (suc zero)) g = refl
expected_double (negsuc (suc (suc n))) g = absurd (let z : ⊥ = omega arith in z)

-- Else it is worth the move.
pub expected_worth : (d : ℤ) → is_e (expected d) ≡ false → worth (expected d) ≡ d
unfolding expected is_e worth
expected_worth (pos zero) e = refl
expected_worth (pos (suc zero)) e = refl
expected_worth (pos (suc (suc n))) e = absurd (true≢false e)
expected_worth (negsuc zero) e = refl
expected_worth (negsuc (suc n)) e = absurd (true≢false e)

-- The entry between the codes of two angles.
pub entry_shown : (a b : ℤ) → nat_abs (b -ℤ a) ≤ 2 → entry X4 (angle_code a) (angle_code b) ≡ expected (b -ℤ a)
unfolding angle_code
entry_shown a b g =
    ap (λ (n : ℕ). entry X4 (get_or cycle (mod_z a 4) 0) (get_or cycle n 0)) (ap (λ (z : ℤ). mod_z z 4) (sym (onto a b)) ∙ mod_add a (b -ℤ a))
    ∙ entry_at (b -ℤ a) g (mod_z a 4) (mod_z_lt a (omega arith))

-- The two levels of a code that an angle shows make that code.
code_shown : (angle : ℤ) → code (flag_of 0 (angle_code angle)) (flag_of 1 (angle_code angle)) ≡ angle_code angle
unfolding angle_code cycle
code_shown angle = below_four (λ i. code (flag_of 0 (get_or cycle i 0)) (flag_of 1 (get_or cycle i 0)) ≡ get_or cycle i 0) refl refl refl refl
    (mod_z angle 4) (mod_z_lt angle (omega arith))

-- At depth 1 the code after a sample of the shaft is that of its angle.
pub code_at_lem : (x : Axis) → x.config.depth ≡ 1 → (t : ShaftSample) (h : List Act) →
    code_at x (sampled (raw_at t) ∷ h) ≡ angle_code t.angle
unfolding code_at raw_at level_of
code_at_lem x depth t h = ap₂ code (level_one x A (raw_at t) h depth) (level_one x B (raw_at t) h depth) ∙ code_shown t.angle
