-- Each part by itself.
use Rattle.history_laws.proofs.CallSteps.{writing_keeps}
use Rattle.history_laws.proofs.volumes.raw_writes_keep.Goals as goal

pub returns : goal.returns
returns c = λ g moment opening first v start bytes may touched keeps. writing_keeps g moment opening first v keeps start bytes may touched
