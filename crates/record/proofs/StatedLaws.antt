-- What docs/RULES.md states, computed to its end: "The saved record", and the numbers of its answers.
use Rattle.std.specs.Prelude.{Ok, Err}
use mathlib.Core.Path.{◌≡◌, refl}
use mathlib.Core.List.{List, [], ◌∷◌, map}
use Prim.Native.Nat.{ℕ}
use lib.IntN.{pos, negsuc}
use Rattle.position.specs.Position.{in_range}
use Rattle.refusal.specs.declared.Refusal.TheVariants.{Value, Room, Layout, Record}
use Rattle.axis.specs.Config.{good_config}
use Rattle.tagged.specs.Bytes.{number_from, bytes_of, starts}
use Rattle.tagged.specs.Field.{field_at, field_bytes}
use Rattle.record_axis.specs.declared.saved.Saved.{Saved}
use Rattle.record_axis.specs.AxisFields.{counter_at, sampled_at, axis_at, front_bytes, setting_bytes, axis_bytes}
use Rattle.record_axis.specs.Limits.{within_limits}
use Rattle.record.specs.Answer.{read_number, read_found, read_saved, tested_number, tested_found}
use Rattle.record.specs.Answer.{written_number, written_found, written_bytes}
use Rattle.record.specs.Record.{layout_refusal, ended_at, read_as, record_of, saved_as}

-- ---- whole records

-- A sampled axis of 4096 counts per turn, at position -2.
abbrev sampled : ℕ → ℕ → Saved
sampled kind depth = record { config = record { kind = kind; depth = depth; width = 0; turn = 4096 }; position = negsuc 1 }

-- A counter at position -2.
abbrev counter : ℕ → Saved
counter width = record { config = record { kind = 8; depth = 0; width = width; turn = 0 }; position = negsuc 1 }

-- The opening, the kind and a position that is -2 where its first byte is 255, and what follows.
abbrev fronted : ℕ → ℕ → List ℕ → List ℕ
fronted kind high rest =
    1 ∷ 0 ∷ 2 ∷ 0 ∷ 1 ∷ 2 ∷ 0 ∷ 1 ∷ kind ∷ 3 ∷ 0 ∷ 8 ∷ high ∷ 255 ∷ 255 ∷ 255 ∷ 255 ∷ 255 ∷ 255 ∷ 254 ∷ rest

-- The 34 bytes of a sampled axis, and what stands behind them; the last field is the end where its tag is 127.
abbrev sampled_bytes : ℕ → ℕ → ℕ → ℕ → List ℕ → List ℕ
sampled_bytes kind high depth end more =
    fronted kind high (4 ∷ 0 ∷ 1 ∷ depth ∷ 6 ∷ 0 ∷ 4 ∷ 0 ∷ 0 ∷ 16 ∷ 0 ∷ end ∷ 0 ∷ 0 ∷ more)

-- The 27 bytes of a counter.
abbrev counter_bytes : ℕ → List ℕ
counter_bytes width = fronted 8 255 (5 ∷ 0 ∷ 1 ∷ width ∷ 127 ∷ 0 ∷ 0 ∷ [])

-- A counter of 12 bits, as it is written.
pub counter_record : record_of (counter 12) ≡ counter_bytes 12
unfolding bytes_of field_bytes front_bytes setting_bytes axis_bytes record_of
counter_record = refl

-- Records of every kind, as they are read.
pub record_read :
    map read_as
    (sampled_bytes 1 255 1 127 [] ∷ sampled_bytes 2 255 8 127 [] ∷ sampled_bytes 4 255 3 127 [] ∷ counter_bytes 2 ∷ counter_bytes 32 ∷ [])
    ≡ map Ok (sampled 1 1 ∷ sampled 2 8 ∷ sampled 4 3 ∷ counter 2 ∷ counter 32 ∷ [])
unfolding number_from starts field_at good_config in_range counter_at sampled_at axis_at within_limits layout_refusal ended_at read_as
record_read = refl

-- ---- the order of a record's checks, on slices that fail one and slices that fail several

-- LAYOUT with its number needs five bytes that open 01 00 02.
pub other_layouts :
    map read_as
    ((1 ∷ 0 ∷ 2 ∷ 0 ∷ 2 ∷ [])
    ∷ (1 ∷ 0 ∷ 2 ∷ 2 ∷ 1 ∷ 7 ∷ [])
    ∷ (1 ∷ 0 ∷ 2 ∷ 7 ∷ [])
    ∷ (2 ∷ 0 ∷ 2 ∷ 0 ∷ 2 ∷ [])
    ∷ (1 ∷ 0 ∷ 3 ∷ 0 ∷ 2 ∷ [])
    ∷ [])
    ≡ map Err (Layout 2 ∷ Layout 513 ∷ Record ∷ Record ∷ Record ∷ [])
unfolding number_from starts field_at counter_at sampled_at axis_at layout_refusal ended_at read_as
other_layouts = refl

-- After nine bytes a kind is VALUE, then the rest of the shape is RECORD, then position, depth and width are VALUE.
pub then_values :
    map read_as
    ((1 ∷ 0 ∷ 2 ∷ 0 ∷ 1 ∷ [])
    ∷ (1 ∷ 0 ∷ 2 ∷ 0 ∷ 1 ∷ 2 ∷ 0 ∷ 1 ∷ 3 ∷ [])
    ∷ (1 ∷ 0 ∷ 2 ∷ 0 ∷ 1 ∷ 2 ∷ 0 ∷ 1 ∷ 4 ∷ [])
    ∷ sampled_bytes 3 64 9 126 []
    ∷ sampled_bytes 4 64 9 126 []
    ∷ sampled_bytes 4 255 3 127 (0 ∷ [])
    ∷ sampled_bytes 8 255 3 127 []
    ∷ sampled_bytes 4 64 3 127 []
    ∷ sampled_bytes 4 255 9 127 []
    ∷ counter_bytes 33
    ∷ [])
    ≡ map Err (Record ∷ Value ∷ Record ∷ Value ∷ Record ∷ Record ∷ Record ∷ Value ∷ Value ∷ Value ∷ [])
unfolding number_from starts field_at good_config in_range counter_at sampled_at axis_at within_limits layout_refusal ended_at read_as
then_values = refl

-- A save outside its limits is VALUE, whatever the room; within them it needs 34 or 27 bytes.
pub save_first :
    saved_as 0 (sampled 4 9) ∷ saved_as 34 (sampled 4 3) ∷ saved_as 26 (counter 12) ∷ saved_as 27 (counter 12) ∷ []
    ≡ Err Value ∷ Ok 34 ∷ Err Room ∷ Ok 27 ∷ []
unfolding bytes_of field_bytes good_config in_range within_limits front_bytes setting_bytes axis_bytes record_of saved_as
save_first = refl

-- ---- answers in numbers

-- What is done shows the refusal 0; a refusal shows its own number, the layout number that it found, and 0 for every other value.
pub shown : (s : Saved) (n m : ℕ) →
    (map read_number (Ok s ∷ Err Value ∷ Err (Layout n) ∷ []) ≡ 0 ∷ 6 ∷ 11 ∷ [])
    × (map read_found (Ok s ∷ Err Value ∷ Err (Layout n) ∷ []) ≡ 0 ∷ 0 ∷ n ∷ [])
    × (map read_saved (Ok s ∷ Err Value ∷ [])
    ≡ s ∷ record { config = record { kind = 0; depth = 0; width = 0; turn = 0 }; position = pos 0 } ∷ [])
    × (map tested_number ((Ok tt) ∷ Err Value ∷ Err (Layout n) ∷ []) ≡ 0 ∷ 6 ∷ 11 ∷ [])
    × (map tested_found ((Ok tt) ∷ Err Value ∷ Err (Layout n) ∷ []) ≡ 0 ∷ 0 ∷ n ∷ [])
    × (map written_number (Ok m ∷ Err Room ∷ []) ≡ 0 ∷ 10 ∷ [])
    × (map written_found (Ok m ∷ Err Room ∷ Err (Layout n) ∷ []) ≡ 0 ∷ 0 ∷ n ∷ [])
    × (map written_bytes (Ok m ∷ Err Room ∷ []) ≡ m ∷ 0 ∷ [])
shown s n m = (refl, refl, refl, refl, refl, refl, refl, refl)
