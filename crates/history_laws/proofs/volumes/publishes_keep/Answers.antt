-- Each part by itself.
use Rattle.history_laws.proofs.CommitSteps.{publish_keeps}
use Rattle.history_laws.proofs.volumes.publishes_keep.Goals as goal

pub returns : goal.returns
returns c = λ g moment opening first v calls k step keeps. publish_keeps g moment opening first v keeps calls k step
