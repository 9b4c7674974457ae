-- Each part by itself.
use Rattle.history_laws.proofs.ChangeSteps.{taking_keeps}
use Rattle.history_laws.proofs.volumes.hands_keep.Goals as goal

pub returns : goal.returns
returns c = λ g moment opening first v to k hands step inside running same keeps. taking_keeps g moment opening first v keeps to k hands step inside running same
