-- The laws of a view: its reasons, what it shows, and that its numbers tell its answers apart.
use Rattle.std.specs.Prelude.{Result, Ok, Err}
use mathlib.Core.Path.{◌≡◌, refl, sym, ap, ◌∙◌}
use mathlib.Core.Logic.{inl, inr}
use Rattle.axis.specs.Row.{axis_of, fresh_at}
use Rattle.axis_sound.specs.Sound.{status_of, counter_of}
use Rattle.axis.specs.declared.row.Axis.{Axis}
use Rattle.axis.specs.declared.row.Row.{Row}
use Rattle.axis_sound.specs.declared.Status.TheVariants.{Counter}
use Rattle.axis_sound.proofs.SoundLaws.{counter_gives}
use Rattle.row_calls.specs.Reasons.{StatusReasons}
use Rattle.row_calls.proofs.StatusLaws.{Live, either_kind}
use Rattle.row_calls.proofs.ReasonLaws.{Past, both_kinds}
use Rattle.refusal.proofs.RefusalLaws.{told_apart, above_zero}
use Rattle.row_view.specs.View.{view_of, view_row, view_number, view_found, view_value}
use Rattle.refusal.specs.declared.Refusal.{Refusal}
use Rattle.row_view.specs.declared.answer.View.{View}

-- View takes both kinds.
pub view_reasons : (r : Row) → StatusReasons (view_number (view_row r)) (status_of r) ⊥
unfolding view_row Past
view_reasons r = let v = Ok (view_of (axis_of r)) in both_kinds view_number Err (λ e. refl) v v (inl refl) (inl refl) (status_of r)

-- On a sampled row and on a counter a view shows the axis.
pub view_is : (r : Row) → Live r → view_row r ≡ Ok (view_of (axis_of r))
unfolding view_row
view_is r l = either_kind Err (Ok (view_of (axis_of r))) r l

-- Of a counter that is its kind and its position, and flags and doubles 0.
pub view_counter : (r : Row) → status_of r ≡ Counter →
    view_row r ≡ Ok (view_of (fresh_at (counter_of (axis_of r).config.width) (axis_of r).word))
view_counter r e = view_is r (inr e) ∙ ap (λ (a : Axis). Ok (view_of a)) (counter_gives r e).rest

-- Two answers of a view with one number, one found number and one view are one answer.
pub view_told_lem : (a b : Result View Refusal) → view_number a ≡ view_number b → view_found a ≡ view_found b → view_value a ≡ view_value b → a ≡ b
view_told_lem (Ok u) (Ok v) n f e = ap Ok e
view_told_lem (Ok u) (Err d) n f e = absurd (above_zero d (sym n))
view_told_lem (Err d) (Ok v) n f e = absurd (above_zero d n)
view_told_lem (Err d) (Err g) n f e = ap Err (told_apart d g n f)
