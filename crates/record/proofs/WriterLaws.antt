-- The laws of a save: what it answers and leaves, by its checks.
use Rattle.std.specs.Prelude.{Ok, Err}
use mathlib.Core.Path.{◌≡◌}
use mathlib.Core.Bool.{true, false}
use mathlib.Core.List.{List}
use Prim.Native.Nat.{ℕ, ◌+◌, ◌≤◌, ◌<◌}
use native.Mathlib.Nat.{zero-add}
use native.Mathlib.Omega.{arith}
use borrow.Author.Tests.{le-leb, lt-leb}
use lib.ListN.{length, length-append}
use mir.Syntax.{w64}
use mir.Val.{of_z}
use Rattle.refusal.specs.declared.Refusal.TheVariants.{Value, Room}
use Rattle.axis.specs.Kind.{counter_kind}
use Rattle.tagged.specs.Bytes.{bytes_of}
use Rattle.tagged.specs.Store.{Puts}
use Rattle.tagged.specs.Field.{field_bytes}
use Rattle.tagged.proofs.StoreLaws.{puts_then}
use Rattle.record_axis.specs.declared.saved.Saved.{Saved}
use Rattle.record.specs.Opening.{opening}
use Rattle.record_axis.specs.Tags.{depth_tag, width_tag, turn_tag}
use Rattle.record.specs.Tags.{end_tag}
use Rattle.record_axis.specs.AxisFields.{front_bytes, setting_bytes, axis_bytes, axis_length}
use Rattle.record_axis.specs.Limits.{within_limits}
use Rattle.record.specs.Record.{record_of, saved_as, written, SavedInto}
use Rattle.record_axis.proofs.AxisLaws.{axis_long}

-- The fields of an axis, put one after another.
module _ (s : Saved) {bits : ℕ} {b m d : List ℕ} {at j r : ℕ} (e : bits ≡ of_z w64 s.position) where
  pub puts_counter : counter_kind s.config.kind ≡ true → Puts (front_bytes s.config.kind bits) b at m j →
      Puts (field_bytes width_tag 1 s.config.width) m j d r → Puts (axis_bytes s) b at d r
  unfolding axis_bytes setting_bytes
  puts_counter k p q = rw (k, ← e) (puts_then p q)

  pub puts_sampled : {l : List ℕ} {i : ℕ} → counter_kind s.config.kind ≡ false → Puts (front_bytes s.config.kind bits) b at m j →
      Puts (field_bytes depth_tag 1 s.config.depth) m j l i → Puts (field_bytes turn_tag 4 s.config.turn) l i d r →
      Puts (axis_bytes s) b at d r
  unfolding axis_bytes setting_bytes
  puts_sampled k p q t = rw (k, ← e) (puts_then p (puts_then q t))

-- The opening, the fields and the end, put one after another.
pub puts_record : (s : Saved) {b m l d : List ℕ} {i j r : ℕ} →
    Puts opening b 0 m i → Puts (axis_bytes s) m i l j → Puts (field_bytes end_tag 0 0) l j d r → Puts (record_of s) b 0 d r
unfolding record_of
puts_record s p q f = puts_then p (puts_then q f)

-- A record is eight bytes longer than its axis's fields.
pub record_long : (s : Saved) → length (record_of s) ≡ 8 + axis_length s.config.kind
unfolding record_of field_bytes bytes_of
record_long s = simp length-append (omega (arith, axis_long s))

module _ (b : List ℕ) (s : Saved) where
  -- Outside the limits.
  pub outside : within_limits s ≡ false → SavedInto b s (Err Value) b
  unfolding saved_as written
  outside w = (rw w, rw w)

  module _ (w : within_limits s ≡ true) where
    -- Without room.
    pub no_room : length b < 8 + axis_length s.config.kind → SavedInto b s (Err Room) b
    unfolding saved_as written
    no_room h = let l = lt-leb (length (record_of s)) (length b) (rw (record_long s) h) in (rw (w, l), rw (w, l))

    -- With room.
    pub wrote : {n : ℕ} {last : List ℕ} → 8 + axis_length s.config.kind ≤ length b → Puts (record_of s) b 0 last n →
        SavedInto b s (Ok n) last
    unfolding saved_as written
    wrote h p =
        let l = le-leb (length (record_of s)) (length b) (rw (record_long s) h) in
        (rw (w, l, p.behind, zero-add), rw (w, l) p.buffer)
