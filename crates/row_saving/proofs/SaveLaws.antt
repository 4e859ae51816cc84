-- The laws of save and restore.
use Rattle.std.specs.Prelude.{Result, Ok, Err}
use Prim.Native.Nat.{ℕ, ◌≤◌, ◌^◌}
use native.Mathlib.Omega.{arith}
use mathlib.Core.Path.{◌≡◌, refl, sym, ap, subst, ◌∙◌}
use mathlib.Core.Bool.{true, cond, true≢false}
use mathlib.Core.Logic.{◌↔◌, inl, inr, ⊎_elim}
use mathlib.Core.List.{List, ◌++◌}
use lib.Dec.{leb, lit<}
use lib.ListN.{length, take, drop}
use lib.Seq.{take-append_seam}
use borrow.Author.Tests.{le-leb, leb-true}
use Rattle.integers.proofs.Balance.{Decided, yes, no, test}
use Rattle.position.specs.Position.{word_of}
use Rattle.position.proofs.PositionLaws.{origin_holds, word_holds, position_in_range, position_word, word_position}
use Rattle.refusal.specs.declared.Refusal.{Refusal}
use Rattle.refusal.specs.Refusal.{number_of}
use Rattle.refusal.specs.declared.Refusal.TheVariants.{Value as VALUE, Room as ROOM, Layout, Record, Occupied as OCCUPIED}
use Rattle.refusal.specs.Order.{checked}
use Rattle.refusal.proofs.RefusalLaws.{after_either}
use Rattle.axis.specs.Kind.{sampled_kind}
use Rattle.axis.specs.Config.{sampled_config, counter_config, good_config, SampledSetting}
use Rattle.axis.specs.Row.{axis_of, row_of, fresh, fresh_at, Words}
use Rattle.axis_sound.specs.Sound.{is_empty, status_of}
use Rattle.axis.specs.declared.config.Config.{Config}
use Rattle.axis.specs.declared.row.Axis.{Axis}
use Rattle.axis.specs.declared.row.Row.{Row}
use Rattle.axis_sound.specs.declared.Status.TheVariants.{Empty, Sampled, Counter, Broken}
use Rattle.axis.proofs.TestLaws.{either}
use Rattle.axis.proofs.ConfigLaws.{sampled_passes}
use Rattle.axis_sound.proofs.SoundLaws.{sampled_gives, counter_gives, counter_config_lem, packed_again}
use Rattle.tagged.specs.Bytes.{AllBytes}
use Rattle.record.specs.Answer.{written_number}
use Rattle.record.specs.Order.{Judged, other_layout, bad_nine, bad_kind, bad_rest, bad_value, all_good}
use Rattle.record_axis.specs.Limits.{within_limits}
use Rattle.record.specs.Record.{read_as, record_of, saved_as, written}
use Rattle.record_axis.specs.declared.saved.Saved.{Saved}
use Rattle.record_axis.proofs.LimitsLaws.{within_parts}
use Rattle.record.proofs.OrderLaws.{exactly}
use Rattle.record.proofs.RecordLaws.{read_back, one_encoding, accepted_within, saved_front}
use Rattle.row_calls.specs.Change.{changed, preset_axis, Holds}
use Rattle.row_calls.specs.Reasons.{StatusReasons}
use Rattle.row_calls.specs.Answer.{changed_number}
use Rattle.row_calls.specs.Calls.{and_then, on_empty, place_row, preset_row, setup_row}
use Rattle.row_saving.specs.Saving.{saved_of, save_row, saved_in, is_read, said_row, restored_by, restore_row}
use Rattle.row_calls.proofs.StatusLaws.{live, Live, live_position, made_live, either_kind}
use Rattle.row_calls.proofs.ChangeLaws.{to_one, kept_not}
use Rattle.row_calls.proofs.ReasonLaws.{Past, both_kinds}
use Rattle.row_calls.proofs.SetupLaws.{on_empty_lem, on_occupied, empty_taken, occupied_exactly, config_holds}

-- ---- restore

-- The row of what a record says holds the axis that it says.
pub said_holds : (said : Saved) → within_limits said ≡ true →
    Holds (said_row said) (cond (sampled_kind said.config.kind) Sampled Counter) (fresh_at said.config (word_of said.position))
said_holds said e =
    let p = within_parts said e in
    config_holds said.config (word_of said.position) p.0 (word_holds said.position p.1)

-- What a record says, in an empty row alone, is a setup with its configuration and then a preset to its position, on every row.
pub said_sets_up : (said : Saved) → within_limits said ≡ true → (r : Row) →
    on_empty (Ok (said_row said)) r
    ≡ and_then (setup_row said.config.kind said.config.depth said.config.width said.config.turn r) (preset_row
    said.position)
unfolding setup_row preset_row place_row changed
said_sets_up said limits r = go (test (is_empty r))
  where
    c : Config
    c = said.config

    go : Decided (is_empty r) →
        on_empty (Ok (said_row said)) r ≡ and_then (setup_row c.kind c.depth c.width c.turn r) (preset_row said.position)
    go (no h) = rw h
    go (yes h) =
        let p = said.position in
        let parts = within_parts said limits in
        let new = config_holds c (2 ^ 62) parts.0 origin_holds in
        let set : place_row p (row_of (fresh c)) ≡ Ok (said_row said) =
        rw parts.1 (ap (λ (x : Axis). Ok (row_of (preset_axis p x))) new.axis) in
        rw (h, parts.0) (sym (either_kind Err (place_row p (row_of (fresh c))) (row_of (fresh c))
        (made_live (row_of (fresh c)) (sampled_kind c.kind) new.status) ∙ set))

-- A restore is refused where the record is, for the same reason, whatever the row holds.
pub restore_refused : (s : List ℕ) (e : Refusal) (r : Row) → read_as s ≡ Err e → restore_row s r ≡ Err e
unfolding restore_row restored_by
restore_refused s e r h = rw h

module _ (s : List ℕ) (said : Saved) (r : Row) (a : read_as s ≡ Ok said) where
  -- A record that is accepted wants an empty row.
  accepted_is : restore_row s r ≡ on_empty (Ok (said_row said)) r
  unfolding restore_row restored_by
  accepted_is = rw a

  -- It is put there.
  pub restore_done : status_of r ≡ Empty → restore_row s r ≡ Ok (said_row said)
  restore_done e = accepted_is ∙ on_empty_lem _ r e

  -- A restore that is accepted makes a sampled row or a counter, by its kind, with the configuration and the position that the record
  -- says.
  pub restore_makes : (q : Row) → restore_row s r ≡ Ok q →
      Holds q (cond (sampled_kind said.config.kind) Sampled Counter) (fresh_at said.config (word_of said.position))
  restore_makes q e = to_one (empty_taken _ r q (sym accepted_is ∙ e)).1 (said_holds said (accepted_within s said a))

  -- A restore of a record that is accepted is a setup with its configuration and then a preset to its position, on every row.
  pub restore_is :
      restore_row s r ≡ and_then (setup_row said.config.kind said.config.depth said.config.width said.config.turn r)
      (preset_row said.position)
  restore_is = accepted_is ∙ said_sets_up said (accepted_within s said a) r

-- What a restore of a row that is not empty is refused for: the record's own reason, or OCCUPIED.
abbrev pub held_by : Result Saved Refusal → Refusal
held_by (Ok s) = OCCUPIED
held_by (Err e) = e

-- It is refused.
pub restore_full : (s : List ℕ) (r : Row) → (status_of r ≡ Empty → ⊥) → restore_row s r ≡ Err (held_by (read_as s))
restore_full s r full = go (read_as s) refl
  where
    go : (n : Result Saved Refusal) → read_as s ≡ n → restore_row s r ≡ Err (held_by n)
    go (Ok said) h = accepted_is s said r h ∙ on_occupied _ r full
    go (Err e) h = restore_refused s e r h

-- ---- what is saved

-- A sampled configuration is one, and so is a counter's.
sampled_good : (c : Config) → SampledSetting c → good_config c.kind c.depth c.width c.turn ≡ true
unfolding good_config
sampled_good c s = rw (sampled_passes c s)

counter_good : (c : Config) → counter_config c.kind c.depth c.width c.turn ≡ true →
    good_config c.kind c.depth c.width c.turn ≡ true
unfolding good_config
counter_good c e =
    either (sampled_config c.kind c.depth c.width c.turn) (counter_config c.kind c.depth c.width c.turn) (λ _. e)

-- The configuration and the position of a sound row are within their limits.
pub saved_within : (r : Row) → Live r → within_limits (saved_of (axis_of r)) ≡ true
unfolding within_limits
saved_within r (inl e) =
    let s = sampled_gives r e in
    rw (sampled_good (axis_of r).config s.config, position_in_range (axis_of r).word s.word)
saved_within r (inr e) =
    let k = counter_gives r e in
    rw (counter_good (axis_of r).config (counter_config_lem k), position_in_range (axis_of r).word k.word)

-- The record of a row.
abbrev bytes : Row → List ℕ
bytes r = record_of (saved_of (axis_of r))

module _ (r : Row) (l : Live r) where
  -- A save of a sampled row or a counter answers the length of its record, or ROOM where the buffer is shorter; never VALUE.
  pub save_answers : (room : ℕ) → save_row room r ≡ cond (leb (length (bytes r)) room) (Ok (length (bytes r))) (Err ROOM)
  unfolding save_row saved_as
  save_answers room = either_kind Err (saved_as room (saved_of (axis_of r))) r l ∙ rw (saved_within r l)

  -- It writes that record at the front of the buffer and leaves the rest as it was.
  pub save_front : (b : List ℕ) → length (bytes r) ≤ length b → saved_in b r ≡ bytes r ++ drop (length (bytes r)) b
  unfolding saved_in
  save_front b h =
      either_kind (λ _. b) (written b (saved_of (axis_of r))) r l ∙ saved_front b (saved_of (axis_of r)) (saved_within r l) h

-- A save that is not refused is one of a sampled row or a counter, and answers the length of its record, for which there is room.
saved_live : (room n : ℕ) (r : Row) → save_row room r ≡ Ok n → Live r
unfolding save_row
saved_live room n r e =
    let w = saved_as room (saved_of (axis_of r)) in
    ⊎_elim (λ h. inl h.0) (λ h. inr h.0)
    (live Err w w (Ok n) (λ f h. let z : ◌≡◌ {A = ℕ} 0 1 = cc in omega arith) (status_of r) e)

saved_length : (room n : ℕ) (r : Row) (l : Live r) → save_row room r ≡ Ok n → (length (bytes r) ≡ n) × (n ≤ room)
saved_length room n r l e = go (test (leb (length (bytes r)) room)) (sym (save_answers r l room) ∙ e)
  where
    go : Decided (leb (length (bytes r)) room) → cond (leb (length (bytes r)) room) (Ok (length (bytes r))) (Err ROOM) ≡ Ok n →
        (length (bytes r) ≡ n) × (n ≤ room)
    go (yes h) k =
        let m : Ok (length (bytes r)) ≡ Ok n = rw h at k in
        let d : length (bytes r) ≡ n = cc in
        (d, omega (arith, leb-true (length (bytes r)) room h))
    go (no h) k = let m : Err ROOM ≡ Ok n = rw h at k in absurd (let z : ◌≡◌ {A = ℕ} 0 1 = cc in omega arith)

-- A restore of what a save wrote makes, of an empty row, the row with the saved configuration and position and all else 0.
pub restored_save : (b : List ℕ) (n : ℕ) (r q : Row) → save_row (length b) r ≡ Ok n → status_of q ≡ Empty →
    restore_row (take n (saved_in b r)) q ≡ Ok (row_of (fresh_at (axis_of r).config (axis_of r).word))
restored_save b n r q e empty =
    let a = axis_of r in
    let l = saved_live (length b) n r e in
    let k = saved_length (length b) n r l e in
    let front : take n (saved_in b r) ≡ bytes r =
    rw (save_front r l b (rw k.0 k.1), ← k.0) (take-append_seam (bytes r) (drop (length (bytes r)) b)) in
    restore_done (take n (saved_in b r)) (saved_of a) q (ap read_as front ∙ read_back (saved_of a) (saved_within r l)) empty
    ∙ rw (word_position a.word (live_position r l))

-- A counter that was saved is restored as it was, all four words.
pub restored_counter : (b : List ℕ) (n : ℕ) (r q : Row) → Words r → status_of r ≡ Counter → save_row (length b) r ≡ Ok n →
    status_of q ≡ Empty → restore_row (take n (saved_in b r)) q ≡ Ok r
restored_counter b n r q w c e empty =
    let k = counter_gives r c in
    restored_save b n r q e empty
    ∙ ap (λ (x : Axis). Ok (row_of x)) (ap (λ (x : Axis). fresh_at x.config x.word) k.rest ∙ sym k.rest)
    ∙ ap Ok (packed_again r w (λ h. not_broken (sym c ∙ h)))
  where
    not_broken : Counter ≡ Broken → ⊥
    not_broken h = let z : ◌≡◌ {A = ℕ} 0 1 = cc in omega arith

-- A save after a restore that was accepted writes the same bytes, into any buffer that has room for them.
pub saved_restore : (s b : List ℕ) (r q : Row) → AllBytes s → restore_row s r ≡ Ok q → length s ≤ length b →
    (save_row (length b) q ≡ Ok (length s)) × (saved_in b q ≡ s ++ drop (length s) b)
saved_restore s b r q all e room = go (read_as s) refl
  where
    go : (n : Result Saved Refusal) → read_as s ≡ n → (save_row (length b) q ≡ Ok (length s)) × (saved_in b q ≡ s ++ drop (length s) b)
    go (Err f) h = absurd (kept_not q f (sym (restore_refused s f r h) ∙ e))
    go (Ok said) h =
        let m = restore_makes s said r h q e in
        let l = made_live q (sampled_kind said.config.kind) m.status in
        let p = (within_parts said (accepted_within s said h)).1 in
        let same : bytes q ≡ s = ap (λ (x : Axis). record_of (saved_of x)) m.axis
        ∙ rw (position_word said.position p) (one_encoding s said all h) in
        (save_answers q l (length b) ∙ rw (same, le-leb (length s) (length b) room), rw same at (save_front q l b (rw same room)))

-- ---- reasons

-- What a record is refused for is LAYOUT, RECORD or VALUE, and what holds of these numbers holds of its reason's.
pub unread_number : (P : ℕ → Type 0) → P (number_of VALUE) → P (number_of (Layout 0)) → P (number_of Record) → (s : List ℕ) (e : Refusal) →
    read_as s ≡ Err e → P (number_of e)
unread_number P value layout shape s e h = go ((exactly s (read_as s)).0 refl)
  where
    said : (d : Refusal) → read_as s ≡ Err d → P (number_of d) → P (number_of e)
    said d q p = let same : d ≡ e = cc in subst (λ (f : Refusal). P (number_of f)) same p

    go : Judged s (read_as s) → P (number_of e)
    go (other_layout o q) = said _ q layout
    go (bad_nine o n q) = said _ q shape
    go (bad_kind n k q) = said _ q value
    go (bad_rest n k l q) = said _ q shape
    go (bad_value n k l v q) = said _ q value
    go (all_good n k l v q) = absurd (let z : ◌≡◌ {A = ℕ} 0 1 = cc in omega arith)

-- A restore is OCCUPIED exactly where its record is accepted and the row is not empty.
pub restore_occupied : (s : List ℕ) (r : Row) →
    (changed_number (restore_row s r) ≡ number_of OCCUPIED) ↔ ((is_read (read_as s) ≡ true) × (status_of r ≡ Empty → ⊥))
restore_occupied s r = go (read_as s) refl
  where
    go : (n : Result Saved Refusal) → read_as s ≡ n →
        (changed_number (restore_row s r) ≡ number_of OCCUPIED) ↔ ((is_read n ≡ true) × (status_of r ≡ Empty → ⊥))
    go (Err e) h =
        let never = unread_number (λ n. n ≡ number_of OCCUPIED → ⊥) (λ z. omega arith) (λ z. omega arith) (λ z. omega arith) s e h in
        (λ z. absurd (never (sym (ap changed_number (restore_refused s e r h)) ∙ z)), λ w. absurd (true≢false (sym w.0)))
    go (Ok said) h =
        let exact = occupied_exactly (Ok (said_row said)) r (λ z. omega arith) in
        let same = ap changed_number (accepted_is s said r h) in
        (λ z. (refl, exact.0 (sym same ∙ z)), λ w. same ∙ exact.1 w.1)

pub save_past : (room : ℕ) (s : Saved) → Past (written_number (saved_as room s))
unfolding Past saved_as
save_past room s =
    let size = length (record_of s) in
    let fitted = after_either checked written_number OCCUPIED (leb size room) (Ok size) (Err ROOM) (inl refl) (inr (lit< tt)) in
    after_either checked written_number OCCUPIED (within_limits s) _ _ fitted (inr (lit< tt))

-- Save takes both kinds.
pub save_reasons : (room : ℕ) (r : Row) → StatusReasons (written_number (save_row room r)) (status_of r) ⊥
unfolding save_row
save_reasons room r =
    let s = saved_of (axis_of r) in
    both_kinds written_number Err (λ e. refl) (saved_as room s) (saved_as room s) (save_past room s) (save_past room s) (status_of r)
