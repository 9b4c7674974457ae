-- By the step of the journal, and what the bytes of files are owed.
use Rattle.store_laws.proofs.VolumesOfChanges.{applied_step}
use Rattle.store_laws.proofs.volumes.entries_are_applied.Goals as goal

pub returns : goal.returns
returns c = λ g moment opening first v told change after entry keeps whole members may none is has names touched. applied_step g moment opening first v told change after keeps members may none entry whole is has names touched
