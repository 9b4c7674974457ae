-- Each part by itself.
use Rattle.history_laws.proofs.CallSteps.{leaving_keeps}
use Rattle.history_laws.proofs.volumes.leaving_calls_keep.Goals as goal

pub returns : goal.returns
returns c = λ g moment opening first v members unspent left one some none idle keeps. leaving_keeps g moment opening first v keeps members unspent left one some none idle
