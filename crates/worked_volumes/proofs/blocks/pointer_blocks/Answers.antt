use Rattle.std.proofs.Common.{refl}
use Rattle.lufs_base.specs.Fields.{number_in}
use Rattle.worked_volumes.proofs.blocks.pointer_blocks.Goals as goal

pub returns-clause-read : goal.returns-clause-read
unfolding number_in
returns-clause-read c = refl

pub returns-clause-written : goal.returns-clause-written
unfolding number_in
returns-clause-written c = refl
