use mathlib.Core.Path.{sym, subst}
use Rattle.axis.specs.Row.{Narrow}
use Rattle.axis_sound.proofs.SoundLaws.{setup_held}
use Rattle.record_axis.proofs.LimitsLaws.{within_parts}
use Rattle.row_calls.proofs.StatusLaws.{held_position}
use Rattle.row_saving.proofs.said_row.Goals as goal

pub word_of-word-requires : goal.word_of-word-requires
word_of-word-requires c = rw (held_position _ (within_parts c.args.saved c.requires).1) (within_parts c.args.saved c.requires).1

pub pack-requires : goal.pack-requires
pack-requires c =
    subst Narrow (sym c.setup_at.ensures) (setup_held c.args.saved.config _ (within_parts c.args.saved c.requires).0).narrow
