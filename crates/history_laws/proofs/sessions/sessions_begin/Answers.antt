-- Block by block, and with the roles that the volume gives.
use Rattle.history_laws.proofs.SessionsBegin.{session_begins}
use Rattle.history_laws.proofs.sessions.sessions_begin.Goals as goal

pub returns : goal.returns
returns c = session_begins
