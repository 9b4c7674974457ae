-- By the step of the journal.
use Rattle.store_laws.proofs.VolumesOfChanges.{hands_step}
use Rattle.store_laws.proofs.volumes.hands_are_changed.Goals as goal

pub returns : goal.returns
returns c = λ g moment opening first v told change after keeps members may none has same. hands_step g moment opening first v told change after keeps members may none has same
