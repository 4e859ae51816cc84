-- What an axis is told: docs/RULES.md, "A port sample", "Calls that name one axis" and "Reasons for saying no".
use Rattle.std.specs.Prelude.{ℕ, Bool, List, ℤ, take, Result, Ok, Err, ⊤}
use Rattle.refusal.specs.declared.Refusal.{Refusal}
use Rattle.speed.specs.declared.Quotient.{Quotient}
use Rattle.row_sample.specs.declared.SteppedRow.{SteppedRow}
use Rattle.row_view.specs.declared.answer.View.{View}

-- An axis's bits of the three masks: double step, reference edge, broken row.
pub record Marks : Type 0 where
  pub double : Bool
  pub index : Bool
  pub broken : Bool

-- The bits of a sample on a row.
abbrev pub marks_of : SteppedRow → Marks
marks_of s = record { double = s.double; index = s.index; broken = s.broken }

-- What an axis is told: its bits of the masks, or the answer of a call that names it, with the bytes that a save wrote.
pub data Told : Type 0 where
  marks : Marks → Told
  refused : Refusal → Told
  done : Told
  shown : View → Told
  number : ℤ → Told
  quotient : Quotient → Told
  wrote : ℕ → List ℕ → Told

-- What the answers of the calls tell; a refusal is told alike by all.
abbrev pub told_done : Result ⊤ Refusal → Told
told_done (Ok _) = done
told_done (Err e) = refused e

abbrev pub told_view : Result View Refusal → Told
told_view (Ok v) = shown v
told_view (Err e) = refused e

abbrev pub told_number : Result ℤ Refusal → Told
told_number (Ok z) = number z
told_number (Err e) = refused e

abbrev pub told_speed : Result Quotient Refusal → Told
told_speed (Ok q) = quotient q
told_speed (Err e) = refused e

-- A save tells the bytes that it wrote, of what the buffer holds after it.
abbrev pub told_bytes : Result ℕ Refusal → List ℕ → Told
told_bytes (Ok n) buffer = wrote n (take n buffer)
told_bytes (Err e) buffer = refused e
