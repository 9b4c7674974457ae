-- Each part by itself.
use Rattle.history_laws.proofs.HistorySteps.{telling_keeps}
use Rattle.history_laws.proofs.volumes.replies_are_told.Goals as goal

pub returns : goal.returns
returns c = λ g moment opening first v k may keeps. telling_keeps g moment opening first v keeps k may
