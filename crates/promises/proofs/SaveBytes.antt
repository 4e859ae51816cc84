-- The bytes that a save writes do not depend on what its buffer held.
use mathlib.Core.Path.{◌≡◌, refl, sym, ap, ◌∙◌}
use mathlib.Core.Bool.{true, cond}
use mathlib.Core.List.{List}
use Prim.Native.Nat.{ℕ, ◌≤◌}
use borrow.Author.Tests.{leb-true}
use lib.Dec.{leb}
use lib.ListN.{length, take, drop}
use lib.Seq.{take_at}
use Rattle.integers.proofs.Balance.{Decided, yes, no, test}
use Rattle.refusal.specs.declared.Refusal.TheVariants.{Value, Room}
use Rattle.axis_sound.specs.Sound.{status_of}
use Rattle.axis.specs.Row.{axis_of}
use Rattle.axis.specs.declared.row.Row.{Row}
use Rattle.axis_sound.specs.declared.Status.{Status}
use Rattle.axis_sound.specs.declared.Status.TheVariants.{Empty, Sampled, Counter, Broken}
use Rattle.record_axis.specs.Limits.{within_limits}
use Rattle.record.specs.Record.{record_of, saved_as, written}
use Rattle.record_axis.specs.declared.saved.Saved.{Saved}
use Rattle.record.proofs.RecordLaws.{saved_front}
use Rattle.row_saving.specs.Saving.{saved_of, save_row, saved_in}
use Rattle.runs.specs.Told.{Told, refused, wrote, told_bytes}

-- Of what a record says: the bytes written are the record, where it fits.
module _ (s : Saved) (b : List ℕ) where
  front : within_limits s ≡ true → length (record_of s) ≤ length b → take (length (record_of s)) (written b s) ≡ record_of s
  front w h = rw (saved_front b s w h) (take_at (record_of s) (drop (length (record_of s)) b) (length (record_of s)) refl)

  -- what a save of it tells, by the room alone
  abbrev recorded : ℕ → Told
  recorded room =
      cond (within_limits s) (cond (leb (length (record_of s)) room) (wrote (length (record_of s)) (record_of s)) (refused Room))
      (refused Value)

  bytes_are : told_bytes (saved_as (length b) s) (written b s) ≡ recorded (length b)
  unfolding saved_as
  bytes_are = go (test (within_limits s)) (test (leb (length (record_of s)) (length b)))
    where
      go : Decided (within_limits s) → Decided (leb (length (record_of s)) (length b)) →
          told_bytes (saved_as (length b) s) (written b s) ≡ recorded (length b)
      go (no w) f = rw w
      go (yes w) (no f) = rw (w, f)
      go (yes w) (yes f) = let h = front w (leb-true (length (record_of s)) (length b) f) in rw (w, f) (ap (wrote (length (record_of s))) h)

same_bytes : (s : Saved) (b d : List ℕ) → length b ≡ length d →
    told_bytes (saved_as (length b) s) (written b s) ≡ told_bytes (saved_as (length d) s) (written d s)
same_bytes s b d e = bytes_are s b ∙ rw e (sym (bytes_are s d))

-- Two buffers of one size get the same bytes from a row, and the same answer.
pub save_alike : (r : Row) (b d : List ℕ) → length b ≡ length d →
    told_bytes (save_row (length b) r) (saved_in b r) ≡ told_bytes (save_row (length d) r) (saved_in d r)
unfolding save_row saved_in
save_alike r b d e = go (status_of r) refl
  where
    go : (s : Status) → status_of r ≡ s → told_bytes (save_row (length b) r) (saved_in b r) ≡ told_bytes (save_row (length d) r) (saved_in d r)
    go Broken q = rw q
    go Empty q = rw q
    go Sampled q = rw q (same_bytes (saved_of (axis_of r)) b d e)
    go Counter q = rw q (same_bytes (saved_of (axis_of r)) b d e)
