-- What one axis has of a run, from its own row and its own part of each call.
use Rattle.std.specs.Prelude.{ℕ, cond, List, [], ◌∷◌, ◌++◌, reverse, eqb, length, replicate}
use Rattle.axis.specs.declared.row.Row.{Row}
use Rattle.table_port.specs.Port.{nibble}
use Rattle.runs.specs.Told.{Told}
use Rattle.runs.specs.Op.{Look, Op, view, speed, save, changes, restore, reading, looks}
use Rattle.runs.specs.Event.{Event, bits, asked, row_next, told_of}
use Rattle.runs.specs.Run.{Call, port, names}
use Rattle.history.specs.Phase.{Phase, after_event, told_at}

-- What an axis sees of a look: all of it, but of a buffer only the size.
unfoldable pub seen_look : Look → Look
seen_look view = view
seen_look (speed rate) = speed rate
seen_look (save buffer) = save (replicate (length buffer) 0)

-- What an axis sees of a call that names it.
unfoldable pub seen : Op → Op
seen (changes c) = changes c
seen (restore bytes) = restore bytes
seen (reading x) = reading x
seen (looks l) = looks (seen_look l)

-- Axis k's own part of a call: its four bits of a sample, or a call that names it.
unfoldable pub event_of : ℕ → Call → List Event
event_of k (port word) = bits (nibble word k) ∷ []
event_of k (names j o) = cond (eqb j k) (asked (seen o) ∷ []) []

-- Axis k's own events of a run, oldest first.
unfoldable pub events : ℕ → List Call → List Event
events k [] = []
events k (c ∷ cs) = event_of k c ++ events k cs

-- The same, newest first, as a history has them.
abbrev pub own : ℕ → List Call → List Event
own k cs = reverse (events k cs)

-- A row after events, oldest first.
unfoldable pub row_run : Row → List Event → Row
row_run r [] = r
row_run r (e ∷ es) = row_run (row_next r e) es

-- What a row alone is told by events, oldest first.
unfoldable pub tolds : Row → List Event → List Told
tolds r [] = []
tolds r (e ∷ es) = told_of r e ∷ tolds (row_next r e) es

-- The rows that a row alone goes through.
unfoldable pub rows_from : Row → List Event → List Row
rows_from r [] = []
rows_from r (e ∷ es) = row_next r e ∷ rows_from (row_next r e) es

-- What a phase tells of events, oldest first.
unfoldable pub told_since : Phase → List Event → List Told
told_since p [] = []
told_since p (e ∷ es) = told_at p e ∷ told_since (after_event p e) es
