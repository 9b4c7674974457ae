use Rattle.std.proofs.Common.{refl}
use Rattle.lufs_base.specs.Fields.{number_in}
use Rattle.volume_model.specs.Format.{super_of, super_bytes}
use Rattle.worked_volumes.proofs.small_logs.superblocks.Goals as goal

pub returns-clause-fits : goal.returns-clause-fits
unfolding number_in super_of
returns-clause-fits c = refl

pub returns-clause-one_sector_short : goal.returns-clause-one_sector_short
unfolding number_in super_of
returns-clause-one_sector_short c = refl

pub returns-clause-written : goal.returns-clause-written
unfolding super_bytes
returns-clause-written c = refl
