-- Step by step.
use Rattle.history_laws.proofs.SessionSteps.{volume_step_keeps, session_keeps}
use Rattle.history_laws.proofs.sessions.sessions_keep.Goals as goal

pub returns-clause-step : goal.returns-clause-step
returns-clause-step c = volume_step_keeps

pub returns-clause-session : goal.returns-clause-session
returns-clause-session c = session_keeps
