-- What docs/RULES.md states, computed to its end: "The record of a whole table".
use Rattle.std.specs.Prelude.{Ok, Err}
use mathlib.Core.Path.{◌≡◌, refl}
use mathlib.Core.List.{List, [], ◌∷◌, map}
use Prim.Native.Nat.{ℕ}
use lib.IntN.{pos, negsuc}
use Rattle.refusal.specs.declared.Refusal.TheVariants.{Value, Layout, Record}
use Rattle.position.specs.Position.{in_range}
use Rattle.axis.specs.Config.{good_config}
use Rattle.axis.specs.Limit.{most_axes}
use Rattle.tagged.specs.Bytes.{number_from, bytes_of, starts}
use Rattle.tagged.specs.Field.{field_at, field_bytes}
use Rattle.record_axis.specs.AxisFields.{counter_at, sampled_at, axis_at, front_bytes, setting_bytes, axis_bytes}
use Rattle.record_axis.specs.Limits.{within_limits}
use Rattle.record.specs.Record.{layout_refusal, ended_at, read_as}
use Rattle.record_entry.specs.Entry.{counter_from, sampled_from, saved_at, entry_from, entry_bytes}
use Rattle.record_entry.specs.declared.entry.Entry.{Entry}
use Rattle.record_table.specs.TableRecord.{closes_at, entries_at, table_read_as, tested_either}
use Rattle.record_table.specs.TableRecord.{entries_bytes, table_front, table_record_of}
use Rattle.record_table.specs.Survey.{bound_of, survey_of}

-- An x4 axis of depth 3 and 4096 counts per turn at -2, and a counter of 12 bits at 70,000.
abbrev x4 : ℕ → Entry
x4 k = record { axis = k; saved = record { config = record { kind = 4; depth = 3; width = 0; turn = 4096 }; position = negsuc 1 } }

abbrev narrow : ℕ → Entry
narrow k = record { axis = k; saved = record { config = record { kind = 8; depth = 0; width = 12; turn = 0 }; position = pos 70000 } }

-- Their entries, with what follows.
abbrev x4_bytes : ℕ → List ℕ → List ℕ
x4_bytes k rest =
    9 ∷ 0 ∷ 1 ∷ k ∷ 2 ∷ 0 ∷ 1 ∷ 4 ∷ 3 ∷ 0 ∷ 8 ∷ 255 ∷ 255 ∷ 255 ∷ 255 ∷ 255 ∷ 255 ∷ 255 ∷ 254
    ∷ 4 ∷ 0 ∷ 1 ∷ 3 ∷ 6 ∷ 0 ∷ 4 ∷ 0 ∷ 0 ∷ 16 ∷ 0 ∷ rest

abbrev narrow_bytes : ℕ → List ℕ → List ℕ
narrow_bytes k rest =
    9 ∷ 0 ∷ 1 ∷ k ∷ 2 ∷ 0 ∷ 1 ∷ 8 ∷ 3 ∷ 0 ∷ 8 ∷ 0 ∷ 0 ∷ 0 ∷ 0 ∷ 0 ∷ 1 ∷ 17 ∷ 112 ∷ 5 ∷ 0 ∷ 1 ∷ 12 ∷ rest

-- A record that says how many axes it has, and what follows.
abbrev counted : ℕ → List ℕ → List ℕ
counted n rest = 1 ∷ 0 ∷ 2 ∷ 0 ∷ 2 ∷ 8 ∷ 0 ∷ 1 ∷ n ∷ rest

-- The end.
abbrev ending : List ℕ → List ℕ
ending more = 127 ∷ 0 ∷ 0 ∷ more

-- The example of docs/FORMATS.md, 65 bytes, and a record of no axis, 12 bytes.
pub table_written :
    map table_record_of ((x4 0 ∷ narrow 2 ∷ []) ∷ [] ∷ []) ≡ counted 2 (x4_bytes 0 (narrow_bytes 2 (ending []))) ∷ counted 0 (ending []) ∷ []
unfolding bytes_of field_bytes front_bytes setting_bytes axis_bytes entry_bytes entries_bytes table_front table_record_of
table_written = refl

-- Records as they are read: numbers of axes up to 255 are accepted.
pub table_read :
    map table_read_as
    (counted 2 (x4_bytes 0 (narrow_bytes 2 (ending []))) ∷ counted 0 (ending []) ∷ counted 2 (narrow_bytes 16 (x4_bytes 255 (ending []))) ∷ [])
    ≡ map Ok ((x4 0 ∷ narrow 2 ∷ []) ∷ [] ∷ (narrow 16 ∷ x4 255 ∷ []) ∷ [])
unfolding number_from starts field_at good_config in_range most_axes counter_from sampled_from saved_at entry_from closes_at entries_at table_read_as
table_read = refl

-- What a reader keeps of them: how many axes there are, and the first number above theirs.
pub table_kept :
    map survey_of (Ok (x4 0 ∷ narrow 2 ∷ []) ∷ Ok [] ∷ Ok (narrow 16 ∷ x4 255 ∷ []) ∷ Err Value ∷ [])
    ≡ Ok (2, 3) ∷ Ok (0, 0) ∷ Ok (2, 256) ∷ Err Value ∷ []
unfolding bound_of
table_kept = refl

-- LAYOUT with its number needs five bytes that open 01 00 02; layout 1's number is 1.
pub table_layouts :
    map table_read_as
    ((1 ∷ 0 ∷ 2 ∷ 0 ∷ 1 ∷ []) ∷ (1 ∷ 0 ∷ 2 ∷ 2 ∷ 2 ∷ 8 ∷ []) ∷ (1 ∷ 0 ∷ 2 ∷ 0 ∷ []) ∷ (2 ∷ 0 ∷ 2 ∷ 0 ∷ 1 ∷ []) ∷ [] ∷ [])
    ≡ map Err (Layout 1 ∷ Layout 514 ∷ Record ∷ Record ∷ Record ∷ [])
unfolding number_from starts field_at layout_refusal table_read_as
table_layouts = refl

-- The number of axes, then as many entries with ascending numbers, then the end with nothing after it.
pub table_checked :
    map table_read_as
    ((1 ∷ 0 ∷ 2 ∷ 0 ∷ 2 ∷ [])
    ∷ counted 17 []
    ∷ counted 1 (ending [])
    ∷ counted 0 (x4_bytes 0 (ending []))
    ∷ counted 2 (x4_bytes 3 (narrow_bytes 3 (ending [])))
    ∷ counted 2 (x4_bytes 3 (narrow_bytes 2 (ending [])))
    ∷ counted 1 (x4_bytes 0 (ending (0 ∷ [])))
    ∷ counted 1 (x4_bytes 0 (127 ∷ 0 ∷ []))
    ∷ counted 1 (x4_bytes 0 [])
    ∷ [])
    ≡ map Err (Record ∷ Value ∷ Record ∷ Record ∷ Value ∷ Value ∷ Record ∷ Record ∷ Record ∷ [])
unfolding number_from starts field_at good_config in_range most_axes counter_from sampled_from saved_at entry_from closes_at entries_at table_read_as
table_checked = refl

-- The test of both: a record of each layout, a cut one of each, a third layout, and no record at all.
pub either_tested :
    map tested_either
    (counted 0 (ending [])
    ∷ (1 ∷ 0 ∷ 2 ∷ 0 ∷ 1 ∷ 2 ∷ 0 ∷ 1 ∷ 8 ∷ 3 ∷ 0 ∷ 8 ∷ 0 ∷ 0 ∷ 0 ∷ 0 ∷ 0 ∷ 1 ∷ 17 ∷ 112 ∷ 5 ∷ 0 ∷ 1 ∷ 12 ∷ ending [])
    ∷ counted 0 []
    ∷ (1 ∷ 0 ∷ 2 ∷ 0 ∷ 1 ∷ 2 ∷ 0 ∷ 1 ∷ 3 ∷ [])
    ∷ (1 ∷ 0 ∷ 2 ∷ 0 ∷ 3 ∷ [])
    ∷ []
    ∷ [])
    ≡ (Ok tt) ∷ (Ok tt) ∷ Err Record ∷ Err Value ∷ Err (Layout 3) ∷ Err Record ∷ []
unfolding number_from starts field_at good_config in_range most_axes counter_at sampled_at axis_at within_limits layout_refusal ended_at read_as closes_at
    entries_at table_read_as tested_either
either_tested = refl
