use Rattle.axis_sound.proofs.SoundLaws.{sampled_held}
use Rattle.axis_sample.proofs.KeepLaws.{keep_step}
use Rattle.row_sample.proofs.step_sampled.Goals as goal

pub pack-requires : goal.pack-requires
pack-requires c =
    rw c.step_axis-stepped.ensures (sampled_held (keep_step c.args.x c.raw_of.result c.requires)).narrow
