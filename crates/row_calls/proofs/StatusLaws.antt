-- What a row's status gives to the calls: an axis that has a position and packs again.
use Prim.Native.Nat.{ℕ, ◌^◌, ◌<◌}
use native.Mathlib.Omega.{arith}
use mathlib.Core.Path.{◌≡◌, refl, ap}
use mathlib.Core.Logic.{◌⊎◌, inl, inr}
use mathlib.Core.Bool.{Bool, true, false, cond}
use lib.IntN.{ℤ}
use mir.Syntax.{w64}
use mir.Val.{to_z, of_z}
use Rattle.integers.proofs.Machine.{back, fits_size}
use Rattle.position.specs.Position.{in_range, Word}
use Rattle.position.proofs.PositionLaws.{range_is}
use Rattle.refusal.specs.declared.Refusal.{Refusal}
use Rattle.refusal.specs.declared.Refusal.TheVariants.{Broken as BROKEN, Empty as EMPTY}
use Rattle.axis.specs.Row.{axis_of, Narrow}
use Rattle.axis_sound.specs.Sound.{status_of, low_row}
use Rattle.axis.specs.declared.row.Axis.{Axis}
use Rattle.axis.specs.declared.row.Flags.{Flags}
use Rattle.axis.specs.declared.row.Row.{Row}
use Rattle.axis_sound.specs.declared.Status.{Status}
use Rattle.axis_sound.specs.declared.Status.TheVariants.{Empty, Sampled, Counter, Broken}
use Rattle.axis_open.specs.declared.Opened.{Opened}
use Rattle.axis_sound.proofs.SoundLaws.{sampled_gives, counter_gives}
use Rattle.axis_open.proofs.OpenLaws.{opened_narrow, opened_sampled, opened_counter}
use Rattle.row_calls.specs.Change.{changed}
use Rattle.row_calls.specs.Calls.{by_status}

-- An axis within its widths packs, whatever its word, its flags and its doubles become.
pub packs : {a : Axis} → Narrow a → (word : ℕ) (flags : Flags) (doubles : ℕ) → doubles < 2 ^ 16 → Narrow (changed a word flags doubles)
unfolding changed
packs n word flags doubles below = record {
  config = n.config;
  run_a = n.run_a;
  run_b = n.run_b;
  run_z = n.run_z;
  doubles = below;
  direction = n.direction;
}

-- The machine holds a position as it is.
pub held_position : (p : ℤ) → in_range p ≡ true → to_z w64 (of_z w64 p) ≡ p
held_position p e = back (fits_size p (omega (arith, range_is p e)))

-- A call that is not refused is on a sampled row or on a counter.
pub live : {A : Type 0} (refuse : Refusal → A) (sampled counter a : A) → ((e : Refusal) → refuse e ≡ a → ⊥) → (s : Status) →
    by_status refuse sampled counter s ≡ a → ((s ≡ Sampled) × (sampled ≡ a)) ⊎ ((s ≡ Counter) × (counter ≡ a))
live refuse sampled counter a never Broken e = absurd (never BROKEN e)
live refuse sampled counter a never Empty e = absurd (never EMPTY e)
live refuse sampled counter a never Sampled e = inl (refl, e)
live refuse sampled counter a never Counter e = inr (refl, e)

-- A row that is sampled or a counter.
abbrev pub Live : Row → Type 0
Live r = (status_of r ≡ Sampled) ⊎ (status_of r ≡ Counter)

-- It has a position.
pub live_position : (r : Row) → Live r → Word (axis_of r).word
live_position r (inl e) = (sampled_gives r e).word
live_position r (inr e) = (counter_gives r e).word

-- A row that opens as sampled or as a counter is one, with its own axis.
pub opened_live : (r : Row) (o : Opened) → (o.status ≡ status_of r) × (o.axis ≡ axis_of (low_row r)) →
    (o.status ≡ Sampled) ⊎ (o.status ≡ Counter) → Live r × (o.axis ≡ axis_of r)
opened_live r o e (inl s) = let g = opened_sampled r o e s in (inl g.0, g.1)
opened_live r o e (inr s) = let g = opened_counter r o e s in (inr g.0, g.1)

-- A call can work on that axis.
pub opened_works : (r : Row) (o : Opened) → (o.status ≡ status_of r) × (o.axis ≡ axis_of (low_row r)) →
    (o.status ≡ Sampled) ⊎ (o.status ≡ Counter) → Word o.axis.word × Narrow o.axis
opened_works r o e s = let g = opened_live r o e s in (rw g.1 (live_position r g.0), opened_narrow r o.axis e.1)

-- A row whose status goes by its kind is one.
pub made_live : (q : Row) (b : Bool) → status_of q ≡ cond b Sampled Counter → Live q
made_live q true e = inl e
made_live q false e = inr e

-- A call that does the same on both kinds does that on such a row.
pub either_kind : {A : Type 0} (refuse : Refusal → A) (x : A) (r : Row) → Live r → by_status refuse x x (status_of r) ≡ x
either_kind refuse x r (inl e) = ap (by_status refuse x x) e
either_kind refuse x r (inr e) = ap (by_status refuse x x) e
