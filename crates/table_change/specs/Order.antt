-- The order of the reasons in a call that names one axis: docs/RULES.md, "Reasons for saying no".
use Rattle.std.specs.Prelude.{ℕ, ◌<◌, ◌≤◌, ◌≡◌, ◌≢◌, ◌↔◌, List, length}
use Rattle.refusal.specs.Refusal.{number_of}
use Rattle.refusal.specs.declared.Refusal.TheVariants.{Length, Axis}
use Rattle.axis.specs.declared.row.Row.{Row}
use Rattle.table_rows.specs.Table.{axes_in, row_at}

-- LENGTH exactly where the slice holds no axis, else AXIS exactly where it holds none of that number, else what the row's own rule says.
pub record Ordered {A : Type 0} (number : A → ℕ) (say : Row → A) (t : List ℕ) (k : ℕ) (a : A) : Type 0 where
  pub slice : (number a ≡ number_of Length) ↔ (axes_in (length t) ≡ 0)
  pub named : (number a ≡ number_of Axis) ↔ ((axes_in (length t) ≢ 0) × (axes_in (length t) ≤ k))
  pub own : k < axes_in (length t) → a ≡ say (row_at t k)
