-- The saved record's promises: docs/RULES.md, "The saved record".
use Rattle.std.specs.Prelude.{Result, Ok, Err, ⊤}
use mathlib.Core.Path.{◌≡◌, refl, sym, ap, ◌∙◌, subst}
use mathlib.Core.Bool.{true, not, cond, ◌&&◌}
use mathlib.Core.List.{List, [], ◌∷◌, ◌++◌}
use Prim.Native.Nat.{ℕ, ◌+◌, ◌^◌, ◌≤◌, ◌<◌}
use native.Mathlib.Nat.{zero-add}
use native.Mathlib.Omega.{arith}
use borrow.Author.Tests.{le-leb}
use lib.Dec.{leb}
use lib.IntN.{negsuc}
use lib.ListN.{length, take, drop}
use lib.Seq.{sets, sets-eq}
use Rattle.refusal.proofs.OutcomeLaws.{one}
use Rattle.integers.proofs.Balance.{Decided, yes, no, test}
use Rattle.refusal.specs.declared.Refusal.{Refusal}
use Rattle.refusal.specs.declared.Refusal.TheVariants.{Room, Layout}
use Rattle.position.specs.Position.{in_range}
use Rattle.axis.specs.Kind.{X4, counter_kind}
use Rattle.axis.specs.Config.{good_config}
use Rattle.record_axis.specs.declared.saved.Saved.{Saved}
use Rattle.tagged.specs.Bytes.{AllBytes, number_in, number_from, bytes_of, starts}
use Rattle.record.specs.Answer.{read_number, read_found, tested_of, tested_number, tested_found}
use Rattle.record.specs.Opening.{opening}
use Rattle.record.specs.Tags.{layout_tag}
use Rattle.record_axis.specs.AxisFields.{front_bytes, setting_bytes, axis_bytes, axis_length}
use Rattle.record_axis.specs.Limits.{within_limits}
use Rattle.record.specs.Record.{read_as, tested_as, record_of, saved_as, written, SavedInto, Shaped}
use Rattle.tagged.specs.Field.{field_bytes}
use Rattle.record.specs.Order.{has_other_layout, layout_in}
use Rattle.record.specs.Order.{Judged, other_layout, bad_nine, bad_kind, bad_rest, bad_value, all_good}
use Rattle.tagged.proofs.BytesLaws.{number_back, starts_is}
use Rattle.record.proofs.OrderLaws.{exactly}
use Rattle.record.proofs.RoundTrip.{passed, written_read, read_written}
use Rattle.record.proofs.WriterLaws.{record_long}

-- What is written within its limits is read back as it was.
pub read_back : (s : Saved) → within_limits s ≡ true → read_as (record_of s) ≡ Ok s
read_back s w = written_read s w

-- A slice of bytes that is accepted is the one record of what it says.
pub one_encoding : (s : List ℕ) (said : Saved) → AllBytes s → read_as s ≡ Ok said → record_of said ≡ s
one_encoding s said b h = read_written s b said h

-- Two slices of bytes that are accepted and say the same are the same.
pub one_slice : (s t : List ℕ) (said : Saved) → AllBytes s → AllBytes t → read_as s ≡ Ok said → read_as t ≡ Ok said → s ≡ t
one_slice s t said b c h k = sym (one_encoding s said b h) ∙ one_encoding t said c k

-- Every record that is written opens with the five bytes and has 34 or 27.
pub written_shape : (s : Saved) → Shaped s.config.kind (record_of s)
unfolding record_of
written_shape s = record { opens = refl; long = record_long s ∙ go (test (counter_kind s.config.kind)) }
  where
    go : Decided (counter_kind s.config.kind) → 8 + axis_length s.config.kind ≡ cond (counter_kind s.config.kind) 27 34
    go (yes k) = rw k
    go (no k) = rw k

-- Every slice of bytes that is accepted opens with the five bytes and has 34 or 27.
pub accepted_shape : (s : List ℕ) (said : Saved) → AllBytes s → read_as s ≡ Ok said → Shaped said.config.kind s
accepted_shape s said b h = subst (Shaped said.config.kind) (one_encoding s said b h) (written_shape said)

-- What is accepted is within its limits.
pub accepted_within : (s : List ℕ) (said : Saved) → read_as s ≡ Ok said → within_limits said ≡ true
accepted_within s said h = (passed s said h).limits

-- What is accepted opens with the five bytes.
pub accepted_opens : (s : List ℕ) (said : Saved) → read_as s ≡ Ok said → starts opening s ≡ true
accepted_opens s said h = (passed s said h).opens

-- ---- the test

-- The test accepts exactly the slices that the reader accepts.
pub test_accepts : (s : List ℕ) →
    (tested_as s ≡ Ok tt → (said : Saved) × (read_as s ≡ Ok said)) × ((said : Saved) → read_as s ≡ Ok said → tested_as s ≡ Ok tt)
test_accepts s = (go (read_as s), λ said h. rw h)
  where
    go : (r : Result Saved Refusal) → tested_of r ≡ Ok tt → (said : Saved) × (r ≡ Ok said)
    go (Ok said) h = (said, refl)
    go (Err r) h = let z : ◌≡◌ {A = ℕ} 0 1 = cc in absurd (omega arith)

-- The test refuses exactly the slices that the reader refuses, for the same reason.
pub test_refuses : (s : List ℕ) (q : Refusal) →
    (tested_as s ≡ Err q → read_as s ≡ Err q) × (read_as s ≡ Err q → tested_as s ≡ Err q)
test_refuses s q = (go (read_as s), λ h. rw h)
  where
    go : (r : Result Saved Refusal) → tested_of r ≡ Err q → r ≡ Err q
    go (Ok said) h = let z : ◌≡◌ {A = ℕ} 0 1 = cc in absurd (omega arith)
    go (Err r) h = cc

-- The test's numbers are the reader's.
pub test_numbers : (s : List ℕ) → (tested_number (tested_as s) ≡ read_number (read_as s)) × (tested_found (tested_as s) ≡ read_found (read_as s))
test_numbers s = go (read_as s)
  where
    go : (r : Result Saved Refusal) → (tested_number (tested_of r) ≡ read_number r) × (tested_found (tested_of r) ≡ read_found r)
    go (Ok said) = (refl, refl)
    go (Err r) = (refl, refl)

-- ---- another layout

-- A slice with the layout field of a number other than 1, whatever follows.
other_opening : (n : ℕ) (rest : List ℕ) → n < 256 ^ 2 → (n ≡ 1 → ⊥) → has_other_layout (field_bytes layout_tag 2 n ++ rest) ≡ true
unfolding has_other_layout field_bytes bytes_of number_from
other_opening n rest h other = rw (le-leb 5 (length s) (omega arith)) (go (test (starts opening s)))
  where
    s : List ℕ
    s = field_bytes layout_tag 2 n ++ rest

    go : Decided (starts opening s) → not (starts opening s) ≡ true
    go (no e) = rw e
    go (yes e) = absurd (other (sym (number_back 2 n h) ∙ ap (λ (l : List ℕ). number_in (take 2 (drop 3 l))) (starts_is opening s e)))

-- A slice that opens 01 00 02 and then a number other than 1 is refused by LAYOUT with that number, by reader and test,
-- whatever follows.
pub layout_refused : (n : ℕ) (rest : List ℕ) → n < 256 ^ 2 → (n ≡ 1 → ⊥) →
    (read_as (field_bytes layout_tag 2 n ++ rest) ≡ Err (Layout n)) × (tested_as (field_bytes layout_tag 2 n ++ rest) ≡ Err (Layout n))
unfolding field_bytes bytes_of
layout_refused n rest h other =
    let s = field_bytes layout_tag 2 n ++ rest in
    let found = ap (λ (m : ℕ). Err (Layout m)) (sym (number_back 2 n h)) in
    let e = (exactly s (Err (Layout n))).1 (other_layout (other_opening n rest h other) found) in
    (e, (test_refuses s (Layout n)).1 e)

-- No other slice is refused by LAYOUT, and the number is the one that stands there.
pub layout_found_lem : (s : List ℕ) (n : ℕ) → read_as s ≡ Err (Layout n) → (has_other_layout s ≡ true) × (n ≡ layout_in s)
layout_found_lem s n h = go ((exactly s (Err (Layout n))).0 h)
  where
    go : Judged s (Err (Layout n)) → (has_other_layout s ≡ true) × (n ≡ layout_in s)
    go (other_layout l e) = (l, cc)
    go (bad_nine l m e) = absurd (omega (arith, ap read_number e))
    go (bad_kind m k e) = absurd (omega (arith, ap read_number e))
    go (bad_rest m k r e) = absurd (omega (arith, ap read_number e))
    go (bad_value m k r w e) = absurd (omega (arith, ap read_number e))
    go (all_good m k r w e) = absurd (omega (arith, ap read_number e))

-- ---- the buffer of a save

-- Where nothing is refused the record stands at the front, and every byte beyond it is as it was.
pub saved_front : (b : List ℕ) (s : Saved) → within_limits s ≡ true → length (record_of s) ≤ length b →
    written b s ≡ record_of s ++ drop (length (record_of s)) b
unfolding written
saved_front b s w h = rw (w, le-leb (length (record_of s)) (length b) h) (sets-eq (record_of s) b 0 (rw zero-add h) ∙ rw zero-add)

-- A refused save leaves every byte as it was.
pub refused_kept : (b : List ℕ) (s : Saved) (r : Refusal) → saved_as (length b) s ≡ Err r → written b s ≡ b
unfolding saved_as written
refused_kept b s r h = go (test (within_limits s)) (test (leb (length (record_of s)) (length b)))
  where
    go : Decided (within_limits s) → Decided (leb (length (record_of s)) (length b)) →
        cond (within_limits s && leb (length (record_of s)) (length b)) (sets b 0 (record_of s)) b ≡ b
    go (no w) _ = rw w
    go (yes w) (no l) = rw (w, l)
    go (yes w) (yes l) = let e = rw (w, l) at h in let z : ◌≡◌ {A = ℕ} 0 1 = cc in absurd (omega arith)

-- ---- one outcome

-- Reading a slice has one outcome.
pub read_one : (s : List ℕ) (q r : Result Saved Refusal) → q ≡ read_as s → r ≡ read_as s → q ≡ r
read_one s q r = one

-- Testing a slice has one outcome.
pub test_one : (s : List ℕ) (q r : Result ⊤ Refusal) → q ≡ tested_as s → r ≡ tested_as s → q ≡ r
test_one s q r = one

-- Saving into a buffer has one outcome, answer and buffer.
pub save_one : (b : List ℕ) (s : Saved) (q r : Result ℕ Refusal) (c d : List ℕ) → SavedInto b s q c → SavedInto b s r d → (q ≡ r) × (c ≡ d)
save_one b s q r c d h k = (one h.0 k.0, one h.1 k.1)

-- ---- the saved reading of docs/RULES.md, "Readings to hold it against"

abbrev pub x4 : Saved
x4 = record { config = record { kind = X4; depth = 3; width = 0; turn = 4096 }; position = negsuc 1 }

-- x4, depth 3, 4096 counts per turn, position -2, byte for byte.
pub x4_record :
    record_of x4
    ≡ 1 ∷ 0 ∷ 2 ∷ 0 ∷ 1 ∷ 2 ∷ 0 ∷ 1 ∷ 4 ∷ 3 ∷ 0 ∷ 8 ∷ 255 ∷ 255 ∷ 255 ∷ 255 ∷ 255 ∷ 255 ∷ 255 ∷ 254
    ∷ 4 ∷ 0 ∷ 1 ∷ 3 ∷ 6 ∷ 0 ∷ 4 ∷ 0 ∷ 0 ∷ 16 ∷ 0 ∷ 127 ∷ 0 ∷ 0 ∷ []
unfolding record_of axis_bytes front_bytes setting_bytes field_bytes bytes_of
x4_record = refl

-- A buffer of 33 bytes has no room for it.
pub x4_room : saved_as 33 x4 ≡ Err Room
unfolding saved_as within_limits good_config in_range record_of axis_bytes front_bytes setting_bytes field_bytes bytes_of
x4_room = refl
