-- By what the volume keeps.
use Rattle.std.proofs.Common.{length}
use Rattle.history_laws.proofs.Moments.{up_to_now}
use Rattle.history_laws.proofs.SessionSteps.{session_keeps}
use Rattle.history_laws.proofs.sessions.sessions_are_crash_safe.Goals as goal

pub returns-clause-moments : goal.returns-clause-moments
returns-clause-moments c = λ g moment opening start v session. up_to_now g moment opening (length start.calls) v (session_keeps g moment opening start v session)

pub returns-clause-legal : goal.returns-clause-legal
returns-clause-legal c = λ g moment opening start v session. (session_keeps g moment opening start v session).legal
