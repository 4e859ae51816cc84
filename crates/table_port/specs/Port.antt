-- A port sample on a table: docs/RULES.md, "A port sample".
use Rattle.std.specs.Prelude.{ℕ, zero, suc, ◌+◌, ◌*◌, ◌^◌, ◌<◌, ◌≡◌, Bool, false, cond, List, eqb, length, Result, Ok, Err}
use Rattle.refusal.specs.Refusal.{number_of, found_in}
use Rattle.refusal.specs.declared.Refusal.TheVariants.{Length}
use Rattle.fields.specs.Field.{field_of, flag_of}
use Rattle.row_sample.specs.Sample.{step_row}
use Rattle.row_sample.specs.declared.SteppedRow.{SteppedRow}
use Rattle.table_rows.specs.Table.{axes_in, row_at, set_row}
use Rattle.table_port.specs.declared.Masks.{Masks}
use Rattle.refusal.specs.declared.Refusal.{Refusal}

-- The four bits of a port word that axis k owns.
unfoldable pub nibble : ℕ → ℕ → ℕ
nibble port k = field_of (k * 4) 4 port

-- Axis k's row after a sample of which it owns the bits `own k`, and its bits of the answer.
abbrev pub step_at : List ℕ → (ℕ → ℕ) → ℕ → SteppedRow
step_at t own k = step_row (row_at t k) (own k)

-- The table after the first n rows have been sampled.
unfoldable pub sampled_to : ℕ → List ℕ → (ℕ → ℕ) → List ℕ
sampled_to zero t own = t
sampled_to (suc k) t own = set_row (sampled_to k t own) k (step_at t own k).row

-- A mask with bit k put to it; what it holds so far lies below that bit.
unfoldable pub put_bit : ℕ → ℕ → Bool → ℕ
put_bit m k on = cond on (m + 2 ^ k) m

-- The mask whose bit k is f k, for each k below n.
unfoldable pub mask_of : ℕ → (ℕ → Bool) → ℕ
mask_of zero f = 0
mask_of (suc k) f = put_bit (mask_of k f) k (f k)

-- The three masks of the first n rows.
unfoldable pub masks_to : ℕ → List ℕ → (ℕ → ℕ) → Masks
masks_to n t own = record {
  doubles = mask_of n (λ k. (step_at t own k).double);
  index = mask_of n (λ k. (step_at t own k).index);
  broken = mask_of n (λ k. (step_at t own k).broken);
}

-- The masks with row k's bits put to them.
unfoldable pub noted : Masks → ℕ → SteppedRow → Masks
noted m k s = record {
  doubles = put_bit m.doubles k s.double;
  index = put_bit m.index k s.index;
  broken = put_bit m.broken k s.broken;
}

-- Each mask lies below bit k.
pub record Below (m : Masks) (k : ℕ) : Type 0 where
  pub doubles : m.doubles < 2 ^ k
  pub index : m.index < 2 ^ k
  pub broken : m.broken < 2 ^ k

-- What a sample of row k alone does: t before, u after, and the row's own outcome.
pub record SamplesRow (t : List ℕ) (k port : ℕ) (u : List ℕ) (s : SteppedRow) : Type 0 where
  pub outcome : s ≡ step_at t (nibble port) k
  pub table : u ≡ set_row t k (step_at t (nibble port) k).row

-- The table after a port sample; one of another length stays.
unfoldable pub sampled_table : List ℕ → ℕ → List ℕ
sampled_table t port = sampled_to (axes_in (length t)) t (nibble port)

-- The answer of a port sample; LENGTH is its only refusal.
unfoldable pub sampled_answer : List ℕ → ℕ → Result Masks Refusal
sampled_answer t port =
    cond (eqb (axes_in (length t)) 0) (Err Length) (Ok (masks_to (axes_in (length t)) t (nibble port)))

-- What a port sample promises: t before, u after, and the answer.
pub record Samples (t : List ℕ) (port : ℕ) (u : List ℕ) (a : Result Masks Refusal) : Type 0 where
  pub answer : a ≡ sampled_answer t port
  pub table : u ≡ sampled_table t port

-- Axis k's bits of the three masks.
pub record Bits (m : Masks) (k : ℕ) (double edge bad : Bool) : Type 0 where
  pub doubles : flag_of k m.doubles ≡ double
  pub index : flag_of k m.index ≡ edge
  pub broken : flag_of k m.broken ≡ bad

-- Row k keeps every word through a sample, and sets no bit but perhaps that of the broken rows.
pub record Stays (t : List ℕ) (port k : ℕ) (bad : Bool) : Type 0 where
  pub row : row_at (sampled_table t port) k ≡ row_at t k
  pub bits : (m : Masks) → sampled_answer t port ≡ Ok m → Bits m k false false bad

-- The number of the refusal, 0 where there is none.
abbrev pub sampled_number : Result Masks Refusal → ℕ
sampled_number (Ok m) = 0
sampled_number (Err e) = number_of e

-- The layout number that the refusal carries, 0 where it carries none.
abbrev pub sampled_found : Result Masks Refusal → ℕ
sampled_found (Ok m) = 0
sampled_found (Err e) = found_in e

-- The three masks, all 0 on a refusal.
abbrev pub sampled_masks : Result Masks Refusal → Masks
sampled_masks (Ok m) = m
sampled_masks (Err e) = record { doubles = 0; index = 0; broken = 0 }
