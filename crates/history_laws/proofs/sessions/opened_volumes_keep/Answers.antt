-- By what a mount leaves at its end.
use Rattle.history_laws.proofs.OpenedVolumes.{opened_keeps}
use Rattle.history_laws.proofs.sessions.opened_volumes_keep.Goals as goal

pub returns : goal.returns
returns c = λ g moment opening found start role owners r may mounts begins are. opened_keeps g moment opening found start may role owners r mounts begins are
