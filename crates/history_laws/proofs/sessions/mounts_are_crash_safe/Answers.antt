-- Now, by what a mount recovers; and before, step by step.
use Rattle.history_laws.proofs.Mounts.{mount_up_to_now}
use Rattle.history_laws.proofs.sessions.mounts_are_crash_safe.Goals as goal

pub returns : goal.returns
returns c = λ g moment opening found start r stage may mounts. mount_up_to_now g moment opening found start may r stage mounts
