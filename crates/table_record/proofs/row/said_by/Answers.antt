use Rattle.std.specs.Prelude.{Ok, Some}
use mathlib.Core.Path.{◌≡◌, ap, ◌∙◌}
use mathlib.Core.Logic.{◌⊎◌, inl, inr}
use Rattle.axis.specs.Row.{axis_of}
use Rattle.axis.specs.declared.row.Row.{Row}
use Rattle.axis_sound.specs.Sound.{status_of, low_row}
use Rattle.axis_sound.specs.declared.Status.TheVariants.{Sampled, Counter}
use Rattle.axis_open.specs.declared.Opened.{Opened}
use Rattle.axis_open.proofs.OpenLaws.{opened_sampled, opened_counter}
use Rattle.record_axis.specs.declared.saved.Saved.{Saved}
use Rattle.row_calls.proofs.StatusLaws.{Live, live_position}
use Rattle.row_saving.specs.Saving.{saved_of}
use Rattle.table_record.specs.Saving.{row_says}
use Rattle.table_record.proofs.row.said_by.Goals as goal

-- A row that opens as sampled or as a counter is one, with its own axis.
opened : (r : Row) (o : Opened) → (o.status ≡ status_of r) × (o.axis ≡ axis_of (low_row r)) → (o.status ≡ Sampled) ⊎ (o.status ≡ Counter) →
    Live r × (o.axis ≡ axis_of r)
opened r o e (inl s) = let g = opened_sampled r o e s in (inl g.0, g.1)
opened r o e (inr s) = let g = opened_counter r o e s in (inr g.0, g.1)

-- It adds that axis.
adds : (r : Row) → Live r → Ok (Some (saved_of (axis_of r))) ≡ row_says r
unfolding row_says
adds r (inl e) = rw e
adds r (inr e) = rw e

pub kept-requires : goal.kept-requires
kept-requires c =
    let g = opened c.args.r c.open-status.result c.open-status.ensures c.in-Sampled.is in
    rw g.1 (live_position c.args.r g.0)

pub returns-in-Sampled : goal.returns-in-Sampled
returns-in-Sampled c =
    let g = opened c.args.r c.open-status.result c.open-status.ensures c.in-Sampled.is in
    ap (λ (s : Saved). Ok (Some s)) (c.kept.ensures ∙ ap saved_of g.1) ∙ adds c.args.r g.0
