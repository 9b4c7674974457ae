-- By what each moment recovers to.
use Rattle.std.proofs.Common.{length}
use Rattle.history_laws.proofs.MountedAgain.{left_again}
use Rattle.history_laws.proofs.SessionSteps.{session_keeps}
use Rattle.history_laws.proofs.sessions.crashes_are_mounted_again.Goals as goal

pub returns : goal.returns
returns c = λ g moment opening start v n image session. left_again g moment opening (length start.calls) v n image (session_keeps g moment opening start v session)
