-- The tree keeps its shape and its names.
use Rattle.store_laws.proofs.VolumesOfChanges.{back_step}
use Rattle.store_laws.proofs.back.hands_go_back.Goals as goal

pub returns : goal.returns
returns c = λ g moment opening first v told n bytes returned after keeps members may. back_step g moment opening first v told n bytes returned after keeps members may
