-- A counter among all that can happen to its row: docs/RULES.md, "Calls that name one axis", Reading, and "A port sample". Newest first.
use Rattle.std.specs.Prelude.{ℕ, ◌≡◌, List, [], ◌∷◌, ℤ}
use Rattle.refusal.specs.declared.Refusal.{Refusal}
use Rattle.axis.specs.declared.row.Row.{Row}
use Rattle.axis_sound.specs.Sound.{status_of}
use Rattle.axis_sound.specs.declared.Status.TheVariants.{Counter}
use Rattle.row_counter.specs.Counter.{low_bits}
use Rattle.runs.specs.Op.{Op, reading, RefusedFor}
use Rattle.runs.specs.Event.{Event, asked, row_next, row_since}

-- An event leaves every counter alone.
abbrev pub Aside : Event → Type 0
Aside e = (r : Row) → status_of r ≡ Counter → row_next r e ≡ r

-- Events that read a counter of w bits, whose row was r before them, at each of some positions, with others between: any that leaves it
-- alone, and any call that is refused there.
pub data CounterReads (r : Row) (w : ℕ) : List Event → List ℤ → Type 0 where
  none : CounterReads r w [] []
  read : {h : List Event} {ps : List ℤ} (p : ℤ) → CounterReads r w h ps → CounterReads r w (asked (reading (low_bits w p)) ∷ h) (p ∷ ps)
  between : {h : List Event} {ps : List ℤ} (e : Event) → Aside e → CounterReads r w h ps → CounterReads r w (e ∷ h) ps
  refusing : {h : List Event} {ps : List ℤ} (o : Op) (e : Refusal) → RefusedFor (row_since r h) o e → CounterReads r w h ps →
      CounterReads r w (asked o ∷ h) ps
