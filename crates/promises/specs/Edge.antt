-- A shaft with an index line on row k of a run: docs/RULES.md, "A port sample", Index.
use Rattle.std.specs.Prelude.{ℕ, ◌≡◌, ◌↔◌, Bool, true, false, List, [], ◌∷◌, ◌++◌, ℤ, ◌-ℤ◌, Ok}
use Rattle.fields.specs.Field.{flag_of}
use Rattle.position.specs.Position.{position_of}
use Rattle.axis.specs.Row.{axis_of}
use Rattle.axis.specs.declared.row.Axis.{Axis}
use Rattle.table_rows.specs.Table.{row_at}
use Rattle.table_port.specs.Port.{sampled_answer}
use Rattle.table_port.specs.declared.Masks.{Masks}
use Rattle.history_axis.specs.Reference.{EdgeAngle, Over, OverEdge, Zero, homed, WholeTurns}
use Rattle.runs.specs.Run.{Call, port, table_run}
use Rattle.history.specs.Reference.{OnShaft}
use Rattle.promises.specs.Own.{own}

-- The axis of row k after a run.
abbrev pub axis_after : List ℕ → ℕ → List Call → Axis
axis_after t k cs = axis_of (row_at (table_run t cs) k)

-- Row k after a run has followed a shaft, which is at the angle b now, and its position is 0 at o.
abbrev pub Following : (ℤ → Bool) → List ℕ → ℕ → List Call → ℤ → Zero → Type 0
Following z t k cs b o = OnShaft z (row_at t k) (own k cs) b o

-- Row k was homed just now over the edge at the angle a, and its shaft is at the angle c.
pub record HomedOver (z : ℤ → Bool) (t : List ℕ) (k : ℕ) (cs : List Call) (c a : ℤ) : Type 0 where
  pub position : position_of (axis_after t k cs).word ≡ c -ℤ a
  pub shows : (axis_after t k cs).flags.homed ≡ true
  pub clear : (axis_after t k cs).flags.range ≡ false
  pub following : Following z t k cs c (homed a)

-- What the next sample, which shows the shaft at the angle c, does to row k: the mask bit, the home of an armed axis, nothing at all to the
-- zero of one that is not armed or goes over no edge, and the check.
pub record NextSample (z : ℤ → Bool) (t : List ℕ) (k : ℕ) (cs : List Call) (b : ℤ) (o : Zero) (word : ℕ) (c : ℤ) : Type 0 where
  pub bit : (m : Masks) → sampled_answer (table_run t cs) word ≡ Ok m → (flag_of k m.index ≡ true) ↔ OverEdge z b c
  pub home : (axis_after t k cs).flags.armed ≡ true → (a : ℤ) → EdgeAngle z a → Over a b c →
      HomedOver z t k (cs ++ (port word ∷ [])) c a
  pub unarmed : (axis_after t k cs).flags.armed ≡ false → Following z t k (cs ++ (port word ∷ [])) c o
  pub passed : (OverEdge z b c → ⊥) → Following z t k (cs ++ (port word ∷ [])) c o
  pub check : (a : ℤ) → o ≡ homed a → ((e : ℤ) → EdgeAngle z e → WholeTurns (axis_after t k cs).config.turn e a) →
      (axis_after t k (cs ++ (port word ∷ []))).flags.range ≡ false →
      (axis_after t k (cs ++ (port word ∷ []))).flags.index ≡ (axis_after t k cs).flags.index
