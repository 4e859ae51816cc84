-- What holds of every phase: docs/RULES.md, "One row, four words" and "Calls that name one axis".
use Rattle.std.specs.Prelude.{◌≡◌, true, ℤ}
use Rattle.position.specs.Position.{in_range, word_of}
use Rattle.axis.specs.Config.{good_config}
use Rattle.axis.specs.Row.{row_of, empty_row, fresh_at}
use Rattle.axis_sound.specs.Sound.{status_of}
use Rattle.axis.specs.declared.config.Config.{Config}
use Rattle.axis.specs.declared.row.Row.{Row}
use Rattle.axis_sound.specs.declared.Status.TheVariants.{Counter}
use Rattle.history_axis.specs.Acts.{Legal}
use Rattle.history.specs.Phase.{Phase}

-- How a phase begins after a row was given: with that row, with what an erase makes, or with what a setup or a restore does.
pub data Beginning : Row → Row → Type 0 where
  given : {r : Row} → Beginning r r
  erased : {r : Row} → Beginning r empty_row
  made : {r : Row} (c : Config) (z : ℤ) → good_config c.kind c.depth c.width c.turn ≡ true → in_range z ≡ true →
      Beginning r (row_of (fresh_at c (word_of z)))

-- What holds of every phase after a row was given: how it began, that its acts were accepted, and that a counter's position is in the
-- range.
pub record Lawful (r : Row) (p : Phase) : Type 0 where
  pub began : Beginning r p.start
  pub legal : Legal p.acts
  pub placed : status_of p.start ≡ Counter → in_range p.place ≡ true
