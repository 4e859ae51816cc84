-- Save and restore on a table, by what the two calls promise.
use Rattle.std.specs.Prelude.{Result, Ok, Err, ⊤}
use mathlib.Core.Path.{◌≡◌, refl, sym, ap, ◌∙◌}
use mathlib.Core.List.{List, ◌∷◌, ◌++◌}
use mathlib.Core.Logic.{◌≢◌}
use Prim.Native.Nat.{ℕ, ◌+◌, ◌*◌, ◌/◌, ◌%◌, ◌≤◌, ◌<◌}
use native.Mathlib.Omega.{arith}
use lib.ListN.{length, take, drop}
use Rattle.refusal.specs.declared.Refusal.TheVariants.{Layout}
use Rattle.axis.specs.Row.{axis_of, row_of, fresh_at}
use Rattle.axis_sound.specs.Sound.{status_of}
use Rattle.axis_sound.specs.declared.Status.TheVariants.{Empty}
use Rattle.tagged.specs.Bytes.{AllBytes, bytes_of}
use Rattle.tagged.specs.Field.{field_bytes}
use Rattle.record.specs.Record.{read_as}
use Rattle.record_axis.specs.declared.saved.Saved.{Saved}
use Rattle.record.proofs.RecordLaws.{layout_refused}
use Rattle.row_calls.specs.Calls.{setup_row, erase_row, preset_row, and_then}
use Rattle.row_saving.specs.Saving.{restore_row, save_row, saved_in}
use Rattle.row_saving.proofs.SaveLaws.{restore_is, restore_refused, restored_save, saved_restore}
use Rattle.table_rows.specs.Table.{axes_in, row_at}
use Rattle.table_rows.specs.Located.{located, on_found}
use Rattle.table_rows.proofs.LocatedLaws.{found_at, found}
use Rattle.table_change.specs.Making.{Makes, ruled, table_after}
use Rattle.table_change.proofs.MakingLaws.{makes_spares, makes_done, done_makes}
use Rattle.table.specs.Call.{SaveMakes}
use Rattle.runs.proofs.CallLaws.{ruled_is}
use Rattle.promises.proofs.Occupied.{erase_frees}
use Rattle.refusal.specs.declared.Refusal.{Refusal}
use Rattle.axis.specs.declared.row.Row.{Row}

-- A restore of a record that is accepted makes of the named row, empty or not, what a setup with the record's configuration and then a
-- preset to its position make.
pub restore_sets_up : (t : List ℕ) (k : ℕ) → k < axes_in (length t) → (s : List ℕ) (said : Saved) → read_as s ≡ Ok said →
    ruled (restore_row s) t k
    ≡ and_then (setup_row said.config.kind said.config.depth said.config.width said.config.turn (row_at t k))
    (preset_row said.position)
restore_sets_up t k h s said e = ruled_is t k h (restore_row s) ∙ restore_is s said (row_at t k) e

-- A save that is accepted wrote of a row that is there.
saved_there : (t b : List ℕ) (k n : ℕ) {d : List ℕ} → SaveMakes t k b d (Ok n) →
    (save_row (length b) (row_at t k) ≡ Ok n) × (d ≡ saved_in b (row_at t k))
saved_there t b k n {d} w = go (located t k) refl (sym w.answer) w.buffer
  where
    go : (l : Result Row Refusal) → located t k ≡ l → on_found Err (save_row (length b)) l ≡ Ok n → d ≡ on_found (λ _. b) (saved_in b) l →
        (save_row (length b) (row_at t k) ≡ Ok n) × (d ≡ saved_in b (row_at t k))
    go (Err e) q a f = absurd (let z : ◌≡◌ {A = ℕ} 0 1 = cc in omega arith)
    go (Ok r) q a f = let p = found t k r q in rw p.1 (a, f)

-- A restore of what any save wrote, into any table at any axis that is there and empty, is done, and makes of that row the saved
-- configuration and position with all else 0.
pub restores_save : (t b : List ℕ) (k n : ℕ) {d : List ℕ} → SaveMakes t k b d (Ok n) → (u : List ℕ) (j : ℕ) {v : List ℕ} {a : Result ⊤ Refusal} →
    j < axes_in (length u) → status_of (row_at u j) ≡ Empty → Makes (restore_row (take n d)) u j v a →
    (a ≡ Ok tt) × (row_at v j ≡ row_of (fresh_at (axis_of (row_at t k)).config (axis_of (row_at t k)).word))
restores_save t b k n {d} saves u j there empty w =
    let p = saved_there t b k n saves in
    makes_done (restore_row (take n d)) _ there
    (ap (λ (x : List ℕ). restore_row (take n x) (row_at u j)) p.1 ∙ restored_save b n (row_at t k) (row_at u j) p.0 empty) w

-- After an erase it is so on any row: on the one that was saved, and on any other.
pub restores_erased : (t b : List ℕ) (k n : ℕ) {d : List ℕ} → SaveMakes t k b d (Ok n) →
    (u : List ℕ) (j : ℕ) {v w : List ℕ} {a c : Result ⊤ Refusal} →
    j < axes_in (length u) → Makes erase_row u j v a → Makes (restore_row (take n d)) v j w c →
    (a ≡ Ok tt) × (c ≡ Ok tt) × (row_at w j ≡ row_of (fresh_at (axis_of (row_at t k)).config (axis_of (row_at t k)).word))
restores_erased t b k n saves u j {v} there erases restores =
    let e = erase_frees u j there erases in
    let r = restores_save t b k n saves v j e.1 e.2 restores in
    (e.0, r.0, r.1)

-- A save after a restore that was accepted answers the length of the record and writes the same bytes, into any buffer with room for them,
-- and nothing beyond.
pub saves_restored : (s t u : List ℕ) (k : ℕ) → AllBytes s → Makes (restore_row s) t k u (Ok tt) → (b : List ℕ) {d : List ℕ} {a : Result ℕ Refusal} →
    SaveMakes u k b d a → length s ≤ length b → (a ≡ Ok (length s)) × (d ≡ s ++ drop (length s) b)
saves_restored s t u k all restores b saves room =
    let p = done_makes (restore_row s) restores in
    let q = saved_restore s b (row_at t k) (row_at u k) all p.1 room in
    let there = found_at u k (rw (makes_spares (restore_row s) restores).size p.0) in
    (saves.answer ∙ rw (← there) q.0, saves.buffer ∙ rw (← there) q.1)

-- A record of another layout, whatever follows its number, is refused by that number at any axis that is there, and nothing changes.
pub other_layout : (t : List ℕ) (k : ℕ) (high low : ℕ) (rest : List ℕ) → high < 256 → low < 256 → high * 256 + low ≢ 1 →
    k < axes_in (length t) → {u : List ℕ} {a : Result ⊤ Refusal} → Makes (restore_row (1 ∷ 0 ∷ 2 ∷ high ∷ low ∷ rest)) t k u a →
    (a ≡ Err (Layout (high * 256 + low))) × (u ≡ t)
unfolding table_after field_bytes bytes_of
other_layout t k high low rest hh hl other there w =
    let n = high * 256 + low in
    let s : List ℕ = 1 ∷ 0 ∷ 2 ∷ high ∷ low ∷ rest in
    let front : n / 256 % 256 ≡ high = omega arith in
    let back : n % 256 ≡ low = omega arith in
    let read : read_as s ≡ Err (Layout n) = rw (front, back) at (layout_refused n rest (omega arith) other).0 in
    let made : ruled (restore_row s) t k ≡ Err (Layout n) =
    ruled_is t k there (restore_row s) ∙ restore_refused s (Layout n) (row_at t k) read in
    (w.answer ∙ rw made, w.table ∙ rw made)
