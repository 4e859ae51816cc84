-- What docs/RULES.md states, computed to its end: "The record of a whole table", a restore as one axis has it.
use Rattle.std.specs.Prelude.{Ok, Err}
use mathlib.Core.Path.{◌≡◌, refl}
use mathlib.Core.Bool.{Bool, true, false}
use mathlib.Core.List.{List, [], ◌∷◌, map}
use Prim.Native.Nat.{ℕ}
use Rattle.refusal.specs.declared.Refusal.TheVariants.{Axis, Occupied}
use Rattle.position.specs.Position.{word_of, in_range}
use Rattle.axis.specs.Config.{good_config}
use Rattle.axis.specs.Limit.{most_axes}
use Rattle.tagged.specs.Bytes.{number_from, starts}
use Rattle.tagged.specs.Field.{field_at}
use Rattle.record.specs.Record.{layout_refusal}
use Rattle.record_entry.specs.Entry.{counter_from, sampled_from, saved_at, entry_from}
use Rattle.record_table.specs.TableRecord.{closes_at, entries_at, table_read_as}
use Rattle.table_rows.specs.Table.{axes_in, row_at}
use Rattle.table_record.specs.AnyRow.{any_row}
use Rattle.table_record.specs.Restoring.{all_below, table_ruling}
use Rattle.table_record.proofs.StatedLaws.{x4, narrow, none, bad, x4_entry, narrow_entry, one, zero_axes}
use Rattle.table_whole.specs.Share.{Share, last_said, mentions, share_row, others_full, share_of, refuses_table}

-- Axis 1 of two, by whether another row was not empty.
abbrev share : Bool → List ℕ → Share
share others bytes = record { axis = 1; axes = 2; bytes = bytes; others = others }

-- The row of axis 1: what is said of it where all are empty, OCCUPIED where another row is not, or its own.
pub share_stated :
    (map (λ w. share_row w (row_at (none []) 0)) (share false one ∷ share true one ∷ share false zero_axes ∷ [])
    ≡ Ok (row_at (narrow []) 0) ∷ Err Occupied ∷ Ok (row_at (none []) 0) ∷ [])
    × (share_row (share false one) (row_at (bad []) 0) ≡ Err Occupied)
    × (share_row (record { axis = 0; axes = 1; bytes = one; others = true }) (row_at (x4 []) 0) ≡ Err Axis)
unfolding most_axes row_at number_from starts field_at good_config in_range counter_from sampled_from saved_at entry_from closes_at entries_at table_read_as
    all_below last_said share_row word_of
share_stated = (refl, refl, refl)

-- Whether another row is not empty, and whether the call is refused.
pub others_stated :
    others_full 0 2 (x4 (none [])) ∷ others_full 1 2 (x4 (none [])) ∷ others_full 1 2 (none (x4 (narrow []))) ∷ others_full 1 3 (none (x4
    (bad [])))
    ∷ refuses_table (none (none [])) one ∷ refuses_table (x4 (none [])) one ∷ mentions 1 (x4_entry 0 ∷ narrow_entry 1 ∷ []) ∷ mentions 2
    (x4_entry 0 ∷ [])
    ∷ []
    ≡ false ∷ true ∷ false ∷ true ∷ false ∷ true ∷ true ∷ false ∷ []
unfolding most_axes axes_in row_at number_from starts field_at good_config in_range layout_refusal counter_from sampled_from saved_at entry_from closes_at
    entries_at table_read_as any_row all_below table_ruling mentions
others_stated = refl

-- An axis is told of the other rows alone: of this table, whose restore is refused for its own row, that none of them is in use.
pub told_stated : share_of 0 (x4 (none [])) one ≡ record { axis = 0; axes = 2; bytes = one; others = false }
unfolding most_axes axes_in row_at any_row
told_stated = refl
