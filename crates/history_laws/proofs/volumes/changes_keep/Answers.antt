-- Each part by itself.
use Rattle.history_laws.proofs.ChangeSteps.{applying_keeps}
use Rattle.history_laws.proofs.volumes.changes_keep.Goals as goal

pub returns : goal.returns
returns c = λ g moment opening first v to k hands step inside running applied keeps. applying_keeps g moment opening first v keeps to k hands step inside running applied
