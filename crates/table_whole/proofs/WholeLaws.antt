-- Whole tables, saved and restored: the calls by what they promise.
use Rattle.std.specs.Prelude.{Result, Option, Ok, ⊤}
use mathlib.Core.Path.{◌≡◌, refl, sym, ap, ◌∙◌}
use mathlib.Core.Logic.{◌≢◌, inl, inr}
use mathlib.Core.Bool.{Bool, true, false, cond}
use mathlib.Core.List.{List, [], ◌∷◌, ◌++◌}
use Prim.Native.Nat.{ℕ, ◌≤◌, ◌<◌}
use native.Mathlib.Nat.{zero-add}
use native.Mathlib.Omega.{arith}
use lib.Dec.{eqb}
use lib.ListN.{length, take, drop}
use lib.Seq.{sets-eq, take-append_seam}
use Rattle.position.specs.Position.{position_of}
use Rattle.position.proofs.PositionLaws.{word_position}
use Rattle.axis.specs.Kind.{sampled_kind}
use Rattle.axis.specs.Row.{axis_of, row_of, fresh_at}
use Rattle.axis.specs.declared.row.Row.{Row}
use Rattle.axis_sound.specs.Sound.{status_of, passes}
use Rattle.axis_sound.specs.declared.Status.{Status}
use Rattle.axis_sound.specs.declared.Status.TheVariants.{Empty, Sampled, Counter, Broken}
use Rattle.axis_sound.proofs.SoundLaws.{status_exactly}
use Rattle.tagged.specs.Bytes.{AllBytes}
use Rattle.record_entry.specs.declared.entry.Entry.{Entry}
use Rattle.record_table.specs.TableRecord.{table_read_as, table_record_of}
use Rattle.record_table.proofs.OrderLaws.{table_exactly}
use Rattle.record_table.proofs.RoundTrip.{Limited, written_read, read_written, read_tellable, read_within}
use Rattle.row_calls.proofs.StatusLaws.{Live, live_position}
use Rattle.row_calls.specs.Calls.{and_then, setup_row, preset_row}
use Rattle.row_calls.proofs.SetupLaws.{on_empty_lem}
use Rattle.row_saving.specs.Saving.{saved_of, said_row}
use Rattle.row_saving.proofs.SaveLaws.{said_holds, said_sets_up, saved_within}
use Rattle.table_rows.specs.Table.{axes_in, row_at}
use Rattle.table_rows.proofs.RowsLaws.{axes_fit}
use Rattle.table_record.specs.Saving.{entries_in, record_in, front_by, TableSaves}
use Rattle.table_record.specs.Restoring.{all_below, all_empty, filled, TableRestores}
use Rattle.table_whole.specs.Answers.{SaveAnswers, no_table, broken_row, no_room, saved}
use Rattle.table_whole.specs.Answers.{EachBelow, RestoreAnswers, no_rows, no_record, no_axis, full_row, restored}
use Rattle.table_record.proofs.RestoringLaws.{empty_each, empty_all, filled_length, restore_fills}
use Rattle.table_whole.specs.Share.{last_said, row_said}
use Rattle.table_whole.proofs.ShareLaws.{filled_row}
use Rattle.table_whole.proofs.RoundTrip.{put_as, saved_tellable, saved_below, restored_row, beyond_row, live_put, empty_says, filled_entries}
use Rattle.table_whole.proofs.AnswerLaws.{below_each, save_exactly, restore_exactly}
use Rattle.table_record.proofs.OutcomeLaws.{restores_one}
use Rattle.refusal.specs.declared.Refusal.{Refusal}
use Rattle.record_axis.specs.declared.saved.Saved.{Saved}

-- A row that is neither empty nor broken is sampled or a counter.
live_is : (r : Row) → status_of r ≢ Empty → status_of r ≢ Broken → Live r
live_is r full sound = go (status_of r) refl
  where
    go : (s : Status) → status_of r ≡ s → Live r
    go Empty e = absurd (full e)
    go Sampled e = inl e
    go Counter e = inr e
    go Broken e = absurd (sound e)

-- The row of a configuration and a position that a live row has is what a setup with the one and then a preset to the other make.
put_sets_up : (r : Row) → Live r → (q : Row) → status_of q ≡ Empty →
    and_then (setup_row (axis_of r).config.kind (axis_of r).config.depth (axis_of r).config.width (axis_of r).config.turn q)
    (preset_row (position_of (axis_of r).word))
    ≡ Ok (row_of (fresh_at (axis_of r).config (axis_of r).word))
put_sets_up r live q empty =
    let said = saved_of (axis_of r) in
    sym (said_sets_up said (saved_within r live) q)
    ∙ on_empty_lem (Ok (said_row said)) q empty
    ∙ ap (λ (w : ℕ). Ok (row_of (fresh_at (axis_of r).config w))) (word_position (axis_of r).word (live_position r live))

-- ---- what a save wrote

module _ (t b : List ℕ) (n : ℕ) {d : List ℕ} (w : TableSaves t b d (Ok n)) where
  -- It is of a table, has no broken row, and its bytes are the table's record, for which there is room.
  record Wrote : Type 0 where
    some : axes_in (length t) ≢ 0
    sound : (k : ℕ) → k < axes_in (length t) → status_of (row_at t k) ≢ Broken
    size : n ≡ length (record_in t)
    room : length (record_in t) ≤ length b

  wrote : Wrote
  wrote = go ((save_exactly t (length b) (Ok n)).0 w.answer) refl
    where
      go : {a : Result ℕ Refusal} → SaveAnswers t (length b) a → Ok n ≡ a → Wrote
      go (no_table z) q = absurd (let z : ◌≡◌ {A = ℕ} 0 1 = cc in omega arith)
      go (broken_row k h e) q = absurd (let z : ◌≡◌ {A = ℕ} 0 1 = cc in omega arith)
      go (no_room z s l) q = absurd (let z : ◌≡◌ {A = ℕ} 0 1 = cc in omega arith)
      go (saved z s l) q = record { some = z; sound = s; size = cc; room = l }

  -- The record stands at the front of the buffer, and every byte beyond it is as it was.
  pub saved_whole : d ≡ record_in t ++ drop (length (record_in t)) b
  saved_whole =
      w.buffer
      ∙ ap (front_by b (record_in t)) (sym w.answer)
      ∙ sets-eq (record_in t) b 0 (rw zero-add wrote.room)
      ∙ rw zero-add

  front : take n d ≡ record_in t
  front = rw (wrote.size, saved_whole) (take-append_seam (record_in t) (drop (length (record_in t)) b))

  -- ---- restored

  module _ (u : List ℕ) (fits : axes_in (length t) ≤ axes_in (length u))
      (empty : (k : ℕ) → k < axes_in (length u) → status_of (row_at u k) ≡ Empty) {v : List ℕ} {a : Result ⊤ Refusal} (r : TableRestores
      (take n d) u v a) where
    fills : TableRestores (record_in t) u (filled u (entries_in t)) (Ok tt)
    unfolding passes
    fills =
        restore_fills (record_in t) u (λ z. wrote.some (omega arith)) (entries_in t) (written_read (entries_in t) (saved_tellable t))
        (saved_below t (axes_in (length u)) fits)
        (empty_all (axes_in (length u)) u (λ k h. (status_exactly Empty (row_at u k)).0 (empty k h)))

    outcome : (a ≡ Ok tt) × (v ≡ filled u (entries_in t))
    outcome = restores_one (record_in t) u (rw front at r) fills

    -- A restore of what a save wrote, into a table of empty rows that is as long or longer, is done.
    pub whole_done : a ≡ Ok tt
    whole_done = outcome.0

    -- It gives each row that was saved its configuration and its position, with all else 0, and leaves the others empty.
    pub whole_row : (k : ℕ) → k < axes_in (length t) →
        (status_of (row_at t k) ≢ Empty → row_at v k ≡ row_of (fresh_at (axis_of (row_at t k)).config (axis_of (row_at t k)).word))
        × (status_of (row_at t k) ≡ Empty → status_of (row_at v k) ≡ Empty)
    whole_row k h =
        let l : k < axes_in (length u) = omega arith in
        let put = ap (λ (x : List ℕ). row_at x k) outcome.1 ∙ restored_row t u k h l in (
          λ full. put ∙ live_put (row_at t k) (row_at u k) (live_is (row_at t k) full (wrote.sound k h)),
          λ e. ap status_of (put ∙ ap (λ (x : Result (Option Saved) Refusal). put_as x (row_at u k)) (empty_says (row_at t k) e)) ∙ empty k l,
        )

    -- The rows beyond those of the table that was saved stay empty too.
    pub whole_beyond : (k : ℕ) → axes_in (length t) ≤ k → k < axes_in (length u) → status_of (row_at v k) ≡ Empty
    whole_beyond k h l =
        ap (λ (x : List ℕ). status_of (row_at x k)) outcome.1 ∙ ap status_of (beyond_row t u k h l) ∙ empty k l

    -- That is what a setup with its configuration and then a preset to its position make of an empty row.
    pub whole_sets_up : (k : ℕ) → k < axes_in (length t) → status_of (row_at t k) ≢ Empty → (q : Row) → status_of q ≡ Empty →
        and_then
        (setup_row (axis_of (row_at t k)).config.kind (axis_of (row_at t k)).config.depth (axis_of (row_at t k)).config.width
        (axis_of (row_at t k)).config.turn q) (preset_row (position_of (axis_of (row_at t k)).word))
        ≡ Ok (row_at v k)
    whole_sets_up k h full q vacant =
        put_sets_up (row_at t k) (live_is (row_at t k) full (wrote.sound k h)) q vacant ∙ ap Ok (sym ((whole_row k h).0 full))

-- ---- what was restored is saved again

-- A record makes no broken row.
said_sound : (k : ℕ) (es : List Entry) (r : Row) → Limited es → status_of r ≢ Broken → status_of (row_said k es r) ≢ Broken
unfolding last_said
said_sound k [] r l h = h
said_sound k (e ∷ es) r l h = said_sound k es (cond (eqb e.axis k) (said_row e.saved) r) l.1 (go (eqb e.axis k))
  where
    made : (b : Bool) → status_of (said_row e.saved) ≡ cond b Sampled Counter → status_of (said_row e.saved) ≢ Broken
    made true q f = let z : ◌≡◌ {A = ℕ} 0 1 = cc in omega arith
    made false q f = let z : ◌≡◌ {A = ℕ} 0 1 = cc in omega arith

    go : (b : Bool) → status_of (cond b (said_row e.saved) r) ≢ Broken
    go true = made (sampled_kind e.saved.config.kind) (said_holds e.saved l.0).status
    go false = h

filled_sound : (k : ℕ) (t : List ℕ) (es : List Entry) {u : List ℕ} → k < axes_in (length t) → Limited es →
    all_empty (axes_in (length t)) t ≡ true → u ≡ filled t es → status_of (row_at u k) ≢ Broken
unfolding passes
filled_sound k t es h l vacant same =
    let empty = (status_exactly Empty (row_at t k)).1 (empty_each (axes_in (length t)) k t vacant h) in
    let not : status_of (row_at t k) ≢ Broken = λ e. (let z : ◌≡◌ {A = ℕ} 0 1 = cc in omega arith) in
    rw (same, filled_row k t es (omega (arith, axes_fit (length t)))) (said_sound k es (row_at t k) l not)

module _ (s t u : List ℕ) (all : AllBytes s) (r : TableRestores s t u (Ok tt)) where
  -- What a restore that is done found.
  record Found : Type 0 where
    entries : List Entry
    some : axes_in (length t) ≢ 0
    read : table_read_as s ≡ Ok entries
    below : all_below (axes_in (length t)) entries ≡ true
    vacant : all_empty (axes_in (length t)) t ≡ true
    fills : u ≡ filled t entries

  found : Found
  unfolding passes
  found = go ((restore_exactly s t (Ok tt)).0 r.answer) refl
    where
      go : {a : Result ⊤ Refusal} → RestoreAnswers s t a → (Ok tt) ≡ a → Found
      go (no_rows z) q = absurd (let z : ◌≡◌ {A = ℕ} 0 1 = cc in omega arith)
      go (no_record e z j) q = absurd (let z : ◌≡◌ {A = ℕ} 0 1 = cc in omega arith)
      go (no_axis es z j b) q = absurd (let z : ◌≡◌ {A = ℕ} 0 1 = cc in omega arith)
      go (full_row es k j b h e) q = absurd (let z : ◌≡◌ {A = ℕ} 0 1 = cc in omega arith)
      go (restored es z j b v) q =
          let read = (table_exactly s (Ok es)).1 j in
          let below = (below_each (axes_in (length t)) es).1 b in
          let vacant = empty_all (axes_in (length t)) t (λ k h. (status_exactly Empty (row_at t k)).0 (v k h)) in
          record {
            entries = es;
            some = z;
            read = read;
            below = below;
            vacant = vacant;
            fills = (restores_one s t r (restore_fills s t z es read below vacant)).1;
          }

  -- A table that a record filled has that record.
  same : record_in u ≡ s
  same =
      let f = found in
      let rising = (read_tellable s f.entries all f.read).rising in
      ap record_in f.fills
      ∙ ap table_record_of (filled_entries t f.entries rising f.vacant f.below)
      ∙ read_written s f.entries all f.read

  -- A save of a table that a record filled is the same bytes, into any buffer with room for them, and nothing beyond.
  pub whole_again : (b : List ℕ) {d : List ℕ} {a : Result ℕ Refusal} → TableSaves u b d a → length s ≤ length b →
      (a ≡ Ok (length s)) × (d ≡ s ++ drop (length s) b)
  whole_again b {d} {a} w room =
      let f = found in
      let size = ap length f.fills ∙ filled_length t f.entries in
      let unbroken : (k : ℕ) → k < axes_in (length u) → status_of (row_at u k) ≢ Broken =
      λ k h. filled_sound k t f.entries (rw size at h) (read_within s f.entries f.read) f.vacant f.fills in
      let fits : length (record_in u) ≤ length b = rw same room in
      let answer = (save_exactly u (length b) (Ok (length (record_in u)))).1 (saved (rw size f.some) unbroken fits) in
      let done : a ≡ Ok (length s) = w.answer ∙ sym answer ∙ ap (λ (x : List ℕ). Ok (length x)) same in
      (done, rw same at (saved_whole u b (length s) (rw done at w)))

-- So a record that is accepted, restored into a table of empty rows that has one for each of its axes, is done, and saved again the same
-- bytes.
pub again_whole : (s t u : List ℕ) (es : List Entry) (c : Result ⊤ Refusal) → AllBytes s → axes_in (length t) ≢ 0 → table_read_as s ≡ Ok es →
    EachBelow (axes_in (length t)) es → ((k : ℕ) → k < axes_in (length t) → status_of (row_at t k) ≡ Empty) → TableRestores s t u c →
    (c ≡ Ok tt) × ((b d : List ℕ) (a : Result ℕ Refusal) → TableSaves u b d a → length s ≤ length b →
    (a ≡ Ok (length s)) × (d ≡ s ++ drop (length s) b))
again_whole s t u es c all some read below empty w =
    let done = w.answer ∙ sym ((restore_exactly s t (Ok tt)).1 (restored es some ((table_exactly s (Ok es)).0 read) below empty)) in
    (done, λ b d a. whole_again s t u all (rw done at w) b)
