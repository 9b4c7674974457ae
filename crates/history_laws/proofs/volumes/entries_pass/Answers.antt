-- Each part by itself.
use Rattle.history_laws.proofs.ChangeSteps.{passing_keeps}
use Rattle.history_laws.proofs.volumes.entries_pass.Goals as goal

pub returns : goal.returns
returns c = λ g moment opening first v passing keeps. passing_keeps g moment opening first v keeps passing
