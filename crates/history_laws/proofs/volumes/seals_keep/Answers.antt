-- Each part by itself.
use Rattle.history_laws.proofs.CommitSteps.{seal_keeps}
use Rattle.history_laws.proofs.volumes.seals_keep.Goals as goal

pub returns : goal.returns
returns c = λ g moment opening first v cause k step keeps. seal_keeps g moment opening first v keeps cause k step
