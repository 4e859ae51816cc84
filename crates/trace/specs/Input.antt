-- What the trace program makes of its input: docs/RULES.md, "Trace program". Which bytes a read answers for, its reader says: the bytes that it
-- has left, where they are known. Standard input's are not; that a number is what a read answered and a list what it left in the buffer, no
-- contract can say there, and all that follows from the two is said here.
use Rattle.std.specs.Prelude.{ℕ, ◌-◌, ◌≤◌, ◌<◌, min, ◌≡◌, List, [], ◌++◌, Option, Result, Ok, Err, IfOk, length, take, drop}
use Rattle.std.specs.Io.KnownBytes.{Consumes, IsAtEnd}
use Rattle.std.specs.declared.io.Error.{Error}
use Rattle.text.specs.Text.{text_of}
use Rattle.text.specs.declared.report.Report.{Report}
use Rattle.trace_axis.specs.Trace.{LIMIT, started, fed_with, input_report}
use Rattle.trace_axis.specs.declared.trace.Trace.{Trace}

-- ---- one read

-- The trace after a read, and what the read answered: how many bytes it put at the front of what it was lent, 0 at the end of the input, or the
-- error with which it failed.
pub record Turn : Type 0 where
  pub trace : Trace
  pub got : Result ℕ Error

-- A trace after a read, and the read's answer.
abbrev pub turn_of : Trace → Result ℕ Error → Turn
turn_of x r = record { trace = x; got = r }

-- The bytes that a read found, by its answer and the buffer as it is after the read: the first so many; none at the end of the input or
-- where the read failed.
abbrev pub found : {E : Type 0} → Result ℕ E → List ℕ → List ℕ
found (Ok n) d = take n d
found (Err e) d = []

-- That a read found bytes, by its answer.
abbrev pub Found : {E : Type 0} → Result ℕ E → Type 0
Found (Ok n) = 0 < n
Found (Err e) = ⊥

-- That a read failed, by its answer.
abbrev pub Failed : {E : Type 0} → Result ℕ E → Type 0
Failed (Ok n) = ⊥
Failed (Err e) = Unit {0}

-- How many bytes a read may take behind those that a trace was fed: as many as are still looked at, and no more than the buffer holds.
abbrev pub room_for : Trace → List ℕ → ℕ
room_for x b = min (LIMIT - x.samples) (length b)

-- What one read promises, of the buffer before and after it: it was lent that room, at least a byte, and nothing behind it; and the trace
-- was fed all that it found, and nothing else.
pub record ReadOnce (x : Trace) (b d : List ℕ) (t : Turn) : Type 0 where
  pub some : 0 < room_for x b
  pub answer : IfOk t.got (λ n. n ≤ room_for x b)
  pub long : length d ≡ length b
  pub behind : drop (room_for x b) d ≡ drop (room_for x b) b
  pub trace : t.trace ≡ fed_with x (found t.got d)

-- ---- the whole input

-- Bytes that were found by one read after another, oldest first, and the trace that was fed them.
pub data Reads : List ℕ → Trace → Type 0 where
  none : Reads [] started
  more : {bs : List ℕ} {x : Trace} {b d : List ℕ} {t : Turn} →
      Reads bs x → ReadOnce x b d t → Found t.got → Reads (bs ++ found t.got d) t.trace

-- What ends the reading: a read that found nothing or failed, or no byte left that would be looked at.
pub data Ends : Trace → Turn → Type 0 where
  last : {x : Trace} {b d : List ℕ} {t : Turn} → ReadOnce x b d t → (Found t.got → ⊥) → Ends x t
  full : {x : Trace} → LIMIT ≤ x.samples → Ends x (record { trace = x; got = Ok 0 })

-- What reading the input promises: its bytes, the trace that was fed them, and what ended the reading.
pub record InputRead (t : Turn) : Type 0 where
  pub bytes : List ℕ
  pub fed : Trace
  pub reads : Reads bytes fed
  pub ends : Ends fed t

-- What reading the input takes of the bytes that its reader had left, where they are known: those that were read, and where no read failed
-- and fewer than the limit were read, all of them.
pub record InputTaken (old new : Option (List ℕ)) (t : Turn) : Type 0 where
  pub input : InputRead t
  pub taken : Consumes old new input.bytes
  pub all : (Failed t.got → ⊥) → length input.bytes < LIMIT → IsAtEnd new

-- What is answered of the whole input, by the last read's answer: a value, or the error with which that read failed.
abbrev pub answered : {A : Type 0} → A → Result ℕ Error → Result A Error
answered x (Ok n) = Ok x
answered x (Err e) = Err e

-- What reading all of the input promises, of what the reader had left and of the answer: the trace that was fed it.
pub record AllRead (old new : Option (List ℕ)) (r : Result Trace Error) : Type 0 where
  pub turn : Turn
  pub taken : InputTaken old new turn
  pub answer : r ≡ answered turn.trace turn.got

-- ---- the report

-- What reporting the input promises: its report; where a read failed, the error of that read.
pub record Reported (r : Result Report Error) : Type 0 where
  pub turn : Turn
  pub input : InputRead turn
  pub answer : r ≡ answered (input_report input.bytes) turn.got

-- Lines that are the report of an input, all of it, of which no read failed.
pub record ReportLines (l : List ℕ) : Type 0 where
  pub turn : Turn
  pub input : InputRead turn
  pub good : Failed turn.got → ⊥
  pub text : l ≡ text_of (input_report input.bytes)
