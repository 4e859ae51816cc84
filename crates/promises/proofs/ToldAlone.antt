-- Demand 3, the last sentence, for answers and mask bits: what axis k is told over a run is what the history of axis k tells.
use mathlib.Core.Path.{◌≡◌, refl, ap₂, ◌∙◌}
use mathlib.Core.List.{List, [], ◌∷◌}
use Prim.Native.Nat.{ℕ, ◌<◌}
use lib.ListN.{length}
use Rattle.axis.specs.Row.{Words}
use Rattle.axis.specs.declared.row.Row.{Row}
use Rattle.table_rows.specs.Table.{axes_in, row_at, AllWords}
use Rattle.table_rows.proofs.RowsLaws.{row_words}
use Rattle.runs.specs.Told.{Told}
use Rattle.runs.specs.Event.{Event, row_since}
use Rattle.runs.specs.Run.{Call, heard}
use Rattle.history.specs.Phase.{phase_of}
use Rattle.history.proofs.RowHistory.{told_history}
use Rattle.promises.specs.Own.{events, tolds, told_since}
use Rattle.promises.proofs.RunLaws.{alone}

-- Of a row alone, from any events before.
all_told : {r : Row} → Words r → (h es : List Event) → tolds (row_since r h) es ≡ told_since (phase_of r h) es
unfolding tolds told_since row_since phase_of
all_told words h [] = refl
all_told words h (e ∷ es) = ap₂ (λ (a : Told) (l : List Told). a ∷ l) (told_history words h e) (all_told words (e ∷ h) es)

-- All that axis k is told over a run, its answers and its bits of the masks, is what the history of axis k tells.
pub heard_told : (t : List ℕ) (k : ℕ) → AllWords t → k < axes_in (length t) → (cs : List Call) →
    heard k t cs ≡ told_since (phase_of (row_at t k) []) (events k cs)
unfolding row_since
heard_told t k words h cs = (alone t k h cs).answers ∙ all_told (row_words t k words) [] (events k cs)
