use Rattle.std.proofs.Common.{refl}
use Rattle.volume_model.specs.Format.{clear_bits}
use Rattle.cyl_groups.proofs.tests.made.Goals as goal

pub returns-clause-counted : goal.returns-clause-counted
unfolding clear_bits
returns-clause-counted c = record { inodes = refl; blocks = refl }
