-- The laws of a reader that goes from entry to entry and keeps two numbers.
use Rattle.std.specs.Prelude.{Result, Ok, Err}
use mathlib.Core.Path.{◌≡◌, refl, sym, ap, ◌∙◌}
use mathlib.Core.Bool.{true, false}
use mathlib.Core.List.{List}
use Prim.Native.Nat.{ℕ, suc, ◌+◌}
use native.Mathlib.Nat.{zero-add, add-zero, suc-add, add-suc}
use native.Mathlib.Numerals.{add-one}
use native.Mathlib.Omega.{arith}
use lib.ListN.{length}
use Rattle.refusal.specs.declared.Refusal.{Refusal}
use Rattle.refusal.specs.declared.Refusal.TheVariants.{Record}
use Rattle.tagged.proofs.AnswerLaws.{ok_two}
use Rattle.record_entry.specs.Entry.{entry_from}
use Rattle.record_entry.specs.declared.entry.Entry.{Entry}
use Rattle.record_table.specs.TableRecord.{before, closes_at, entries_at, tested_table}
use Rattle.record_table.specs.Survey.{bound_of, survey_of}

-- What a record comes to by what is left of it, behind some entries, with the least number that the next may have.
abbrev pub survey_on : ℕ → ℕ → Result (List Entry) Refusal → Result (ℕ × ℕ) Refusal
survey_on done least (Ok es) = Ok (done + length es, bound_of least es)
survey_on done least (Err r) = Err r

-- All of it is left at first.
pub survey_first : (x : Result (List Entry) Refusal) → survey_of x ≡ survey_on 0 0 x
survey_first (Ok es) = ap (λ (n : ℕ). Ok (n, bound_of 0 es)) (sym (zero-add (length es)))
survey_first (Err r) = refl

module _ (s : List ℕ) (n at least done : ℕ) where
  -- One entry more.
  pub survey_next : (e : Entry) (next : ℕ) → entry_from s at least ≡ Ok (e, next) →
      survey_on done least (entries_at (suc n) s at least) ≡ survey_on (done + 1) (e.axis + 1) (entries_at n s next (e.axis + 1))
  unfolding entries_at bound_of
  survey_next e next h = rw (h, add-one, add-one) (go (entries_at n s next (suc e.axis)))
    where
      go : (x : Result (List Entry) Refusal) → survey_on done least (before e x) ≡ survey_on (suc done) (suc e.axis) x
      go (Ok es) = ap (λ (m : ℕ). Ok (m, bound_of (suc e.axis) es)) (add-suc done (length es) ∙ sym (suc-add done (length es)))
      go (Err r) = refl

  -- An entry that is refused refuses the record.
  pub survey_stops : (r : Refusal) → entry_from s at least ≡ Err r → survey_on done least (entries_at (suc n) s at least) ≡ Err r
  unfolding entries_at
  survey_stops r h = rw h

module _ (s : List ℕ) (at least done : ℕ) where
  -- Behind the last entry the record closes.
  pub survey_closed : closes_at s at ≡ true → survey_on done least (entries_at 0 s at least) ≡ Ok (done, least)
  unfolding entries_at bound_of
  survey_closed h = rw (h, add-zero)

  -- Or it does not.
  pub survey_open : closes_at s at ≡ false → survey_on done least (entries_at 0 s at least) ≡ Err Record
  unfolding entries_at
  survey_open h = rw h

-- ---- the test, by what a reader keeps

-- A record that comes to two numbers is accepted.
pub tested_passes : (x : Result (List Entry) Refusal) (count bound : ℕ) → survey_of x ≡ Ok (count, bound) → tested_table x ≡ Ok tt
tested_passes (Ok es) count bound h = refl
tested_passes (Err r) count bound h = let z : ◌≡◌ {A = ℕ} 0 1 = cc in absurd (omega arith)

-- One that is refused is refused for the same reason.
pub tested_fails : (x : Result (List Entry) Refusal) (r : Refusal) → survey_of x ≡ Err r → tested_table x ≡ Err r
tested_fails (Ok es) r h = let z : ◌≡◌ {A = ℕ} 0 1 = cc in absurd (omega arith)
tested_fails (Err q) r h = cc

-- ---- what a reader keeps says what it read

-- A record that comes to two numbers says as many axes as the first, and the second is the first number above theirs.
pub survey_says : (x : Result (List Entry) Refusal) (count bound : ℕ) → survey_of x ≡ Ok (count, bound) →
    (es : List Entry) × (x ≡ Ok es) × (length es ≡ count) × (bound_of 0 es ≡ bound)
survey_says (Ok es) count bound h = let v = ok_two h in (es, refl, v.0, v.1)
survey_says (Err r) count bound h = let z : ◌≡◌ {A = ℕ} 0 1 = cc in absurd (omega arith)

-- One that is refused says nothing.
pub survey_unsaid : (x : Result (List Entry) Refusal) (r : Refusal) → survey_of x ≡ Err r → x ≡ Err r
survey_unsaid (Ok es) r h = let z : ◌≡◌ {A = ℕ} 0 1 = cc in absurd (omega arith)
survey_unsaid (Err q) r h = cc
