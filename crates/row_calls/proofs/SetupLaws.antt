-- The laws of setup and erase: which rows they take and make, and of any call that wants an empty row.
use Rattle.std.specs.Prelude.{Result, Ok, Err}
use Prim.Native.Nat.{ℕ, ◌^◌}
use native.Mathlib.Omega.{arith}
use mathlib.Core.Path.{◌≡◌, refl, sym, ap, ◌∙◌}
use mathlib.Core.Bool.{true, false, cond}
use mathlib.Core.Logic.{◌↔◌}
use lib.Dec.{lit<}
use Rattle.integers.proofs.Balance.{Decided, yes, no, test}
use Rattle.position.specs.Position.{Word}
use Rattle.position.proofs.PositionLaws.{origin_holds}
use Rattle.refusal.specs.Refusal.{number_of}
use Rattle.refusal.specs.declared.Refusal.TheVariants.{Value as VALUE, Occupied as OCCUPIED}
use Rattle.axis.specs.Kind.{sampled_kind}
use Rattle.axis.specs.Config.{good_config}
use Rattle.axis.specs.Row.{row_of, empty_row, fresh, fresh_at, blank}
use Rattle.axis.specs.declared.config.Config.{Config}
use Rattle.axis.specs.declared.row.Row.{Row}
use Rattle.axis_sound.specs.Sound.{is_empty, status_of, passes}
use Rattle.axis_sound.specs.declared.Status.TheVariants.{Empty, Sampled, Counter}
use Rattle.axis.proofs.ConfigLaws.{fitting}
use Rattle.axis.proofs.RowLaws.{comes_back, held_words}
use Rattle.axis.proofs.TestLaws.{refuted}
use Rattle.axis_sound.proofs.SoundLaws.{setup_held, setup_sound, erase_sound, status_exactly}
use Rattle.row_calls.specs.Change.{Holds}
use Rattle.row_calls.specs.Calls.{on_empty, config_of, setup_row, erase_row}
use Rattle.row_calls.specs.Answer.{changed_number}
use Rattle.row_calls.proofs.ChangeLaws.{to_one, kept_not}
use Rattle.refusal.specs.declared.Refusal.{Refusal}

-- ---- a call that wants an empty row

-- A row that is not empty is not four zero words.
pub not_zero : (r : Row) → (status_of r ≡ Empty → ⊥) → is_empty r ≡ false
unfolding passes
not_zero r full = refuted (is_empty r) (λ e. full ((status_exactly Empty r).1 e))

module _ (c : Result Row Refusal) (r : Row) where
  -- On an empty row it says what it would say there.
  pub on_empty_lem : status_of r ≡ Empty → on_empty c r ≡ c
  unfolding passes
  on_empty_lem e = rw ((status_exactly Empty r).0 e)

  -- On any other it is OCCUPIED.
  pub on_occupied : (status_of r ≡ Empty → ⊥) → on_empty c r ≡ Err OCCUPIED
  on_occupied full = rw (not_zero r full)

  -- Where it makes a row, the row was empty, and it made what it would say there.
  pub empty_taken : (q : Row) → on_empty c r ≡ Ok q → (status_of r ≡ Empty) × (c ≡ Ok q)
  unfolding passes
  empty_taken q e = go (test (is_empty r))
    where
      go : Decided (is_empty r) → (status_of r ≡ Empty) × (c ≡ Ok q)
      go (yes h) = ((status_exactly Empty r).1 h, rw h at e)
      go (no h) = absurd (kept_not q OCCUPIED (rw h at e))

  -- It is OCCUPIED exactly where the row is not empty, if nothing that it says of an empty row is.
  pub occupied_exactly : (changed_number c ≡ number_of OCCUPIED → ⊥) →
      (changed_number (on_empty c r) ≡ number_of OCCUPIED) ↔ (status_of r ≡ Empty → ⊥)
  occupied_exactly other = (λ e z. other (sym (ap changed_number (on_empty_lem z)) ∙ e), λ full. ap changed_number (on_occupied full))

-- ---- setup

-- The row that a setup makes, at any position, holds its axis.
pub config_holds : (c : Config) (w : ℕ) → good_config c.kind c.depth c.width c.turn ≡ true → Word w →
    Holds (row_of (fresh_at c w)) (cond (sampled_kind c.kind) Sampled Counter) (fresh_at c w)
config_holds c w good word =
    let h = setup_held c w good in
    record {
      status = setup_sound c w word good;
      axis = comes_back (fresh_at c w) h;
      words = held_words (fresh_at c w) h (omega arith) (omega (arith, (fitting c.kind c.depth c.width c.turn good).3));
    }

module _ (k d v n : ℕ) (r : Row) where
  -- A setup of a row that is not empty is OCCUPIED, whatever its numbers.
  pub setup_full : (status_of r ≡ Empty → ⊥) → setup_row k d v n r ≡ Err OCCUPIED
  unfolding setup_row
  setup_full full = rw (not_zero r full)

  -- A setup that is accepted took an empty row and four numbers that are a configuration.
  pub setup_taken : (q : Row) → setup_row k d v n r ≡ Ok q → (status_of r ≡ Empty) × (good_config k d v n ≡ true)
  unfolding setup_row
  setup_taken q e = let t = empty_taken _ r q e in (t.0, go (test (good_config k d v n)) t.1)
    where
      go : Decided (good_config k d v n) → cond (good_config k d v n) (Ok (row_of (fresh (config_of k d v n)))) (Err VALUE) ≡ Ok q →
          good_config k d v n ≡ true
      go (yes g) e = g
      go (no g) e = absurd (kept_not q VALUE (rw g at e))

  -- With such numbers an empty row is set up.
  pub setup_done : status_of r ≡ Empty → good_config k d v n ≡ true → setup_row k d v n r ≡ Ok (row_of (fresh (config_of k d v n)))
  unfolding setup_row
  setup_done e g = on_empty_lem _ r e ∙ rw g

  -- A setup that is accepted makes a sampled row or a counter, by its kind, with the configuration, position 0 and all else 0.
  pub setup_makes : (q : Row) → setup_row k d v n r ≡ Ok q → Holds q (cond (sampled_kind k) Sampled Counter) (fresh (config_of k d v n))
  setup_makes q e =
      let t = setup_taken q e in
      to_one (sym (setup_done t.0 t.1) ∙ e) (config_holds (config_of k d v n) (2 ^ 62) t.1 origin_holds)

  -- Of an empty row it says VALUE exactly where its numbers are no configuration.
  pub setup_refused : status_of r ≡ Empty → (setup_row k d v n r ≡ Err VALUE) ↔ (good_config k d v n ≡ false)
  unfolding setup_row
  setup_refused empty = (λ e. go (test (good_config k d v n)) e, λ g. on_empty_lem _ r empty ∙ rw g)
    where
      go : Decided (good_config k d v n) → setup_row k d v n r ≡ Err VALUE → good_config k d v n ≡ false
      go (yes g) e = absurd (kept_not (row_of (fresh (config_of k d v n))) VALUE (sym e ∙ setup_done empty g))
      go (no g) e = g

  -- It is OCCUPIED exactly where the row is not empty.
  pub setup_occupied : (changed_number (setup_row k d v n r) ≡ number_of OCCUPIED) ↔ (status_of r ≡ Empty → ⊥)
  unfolding setup_row
  setup_occupied = occupied_exactly _ r (go (test (good_config k d v n)))
    where
      go : Decided (good_config k d v n) →
          changed_number (cond (good_config k d v n) (Ok (row_of (fresh (config_of k d v n)))) (Err VALUE)) ≡ number_of OCCUPIED → ⊥
      go (yes g) e = let z : ◌≡◌ {A = ℕ} 0 13 = rw g at e in omega arith
      go (no g) e = let z : ◌≡◌ {A = ℕ} 6 13 = rw g at e in omega arith

-- ---- erase

-- Erase makes an empty row of any row, four zero words.
pub erase_makes : (r : Row) → (erase_row r ≡ Ok empty_row) × Holds empty_row Empty blank
unfolding erase_row
erase_makes r = (
  refl,
  record {
    status = erase_sound.1;
    axis = refl;
    words = record { w0 = lit< tt; w1 = lit< tt; w2 = lit< tt; w3 = lit< tt };
  },
)
