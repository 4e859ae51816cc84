-- A call on a table of 64-bit words leaves such words: docs/RULES.md, "One row, four words".
use Rattle.std.specs.Prelude.{Result, Ok, Err}
use Prim.Native.Nat.{ℕ}
use mathlib.Core.Path.{◌≡◌, refl}
use mathlib.Core.List.{List}
use Rattle.axis.specs.Row.{empty_row, Words}
use Rattle.axis.specs.declared.row.Row.{Row}
use Rattle.row_calls.specs.Calls.{change_row}
use Rattle.row_calls.specs.Calls.{Change}
use Rattle.row_calls.specs.Calls.{Setup, Erase, Preset, Arm, Acknowledge}
use Rattle.row_calls.proofs.ChangeLaws.{preset_keeps, arm_keeps, acknowledge_keeps}
use Rattle.row_calls.proofs.SetupLaws.{setup_makes, erase_makes}
use Rattle.table_rows.specs.Table.{AllWords, row_at}
use Rattle.table_change.specs.Making.{ruled, table_after}
use Rattle.table_rows.proofs.RowsLaws.{set_words}
use Rattle.table_change.proofs.MakingLaws.{replaced}
use Rattle.refusal.specs.declared.Refusal.{Refusal}

-- A rule makes rows of 64-bit words.
abbrev pub Made : (Row → Result Row Refusal) → Type 0
Made rule = (r q : Row) → rule r ≡ Ok q → Words q

pub change_made : (c : Change) → Made (change_row c)
change_made (Setup kind depth width turn) r q e = (setup_makes kind depth width turn r q e).words
change_made Erase r q e =
    let m = erase_makes r in
    let same : q ≡ empty_row = cc m.0 in
    rw same m.1.words
change_made (Preset p) r q e = (preset_keeps p r q e).words
change_made Arm r q e = (arm_keeps r q e).words
change_made Acknowledge r q e = (acknowledge_keeps r q e).words

-- So does every call by such a rule.
pub call_words : (rule : Row → Result Row Refusal) → Made rule → (t : List ℕ) (k : ℕ) → AllWords t → AllWords (table_after t k (ruled rule t k))
call_words rule made t k h = go (ruled rule t k) refl
  where
    go : (c : Result Row Refusal) → ruled rule t k ≡ c → AllWords (table_after t k c)
    go (Err e) q = unfold table_after in h
    go (Ok r) q = unfold table_after in set_words t k r h (made (row_at t k) r (replaced rule t k r q).1)
