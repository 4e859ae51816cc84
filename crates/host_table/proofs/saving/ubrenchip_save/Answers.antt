use native.Mathlib.Omega.{arith}
use Prim.Native.Nat.{◌≤◌}
use Rattle.record.specs.Answer.{written_bytes}
use Rattle.host_table.proofs.SaveLaws.{save_few}
use Rattle.host_table.proofs.saving.ubrenchip_save.Goals as goal

pub of_written-requires : goal.of_written-requires
of_written-requires c = let few : written_bytes c.save.result ≤ 34 = rw c.save.ensures.answer (save_few _ _ _) in omega (arith, few)
