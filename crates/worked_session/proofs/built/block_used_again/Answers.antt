-- Built step by step; of its crashes, by what is proved of each session.
use Rattle.std.proofs.Common.{arith}
use Rattle.volume_model.specs.Worked.{smallest}
use Rattle.history_model.specs.WorkedTrees.{new_tree}
use Rattle.history_laws.specs.WorkedSession.{new_disk}
use Rattle.history_laws.proofs.Moments.{up_to_now}
use Rattle.history_laws.proofs.SessionSteps.{session_keeps}
use Rattle.history_laws.proofs.WorkedCrashes.{left_by}
use Rattle.worked_session.proofs.WholeSession.{whole_session}
use Rattle.worked_session.proofs.built.block_used_again.Goals as goal

pub returns-clause-session : goal.returns-clause-session
returns-clause-session c = whole_session

pub returns-clause-crash : goal.returns-clause-crash
returns-clause-crash c = λ built n image high is.
    let (k, boundary, recovers) = up_to_now smallest 1000 new_tree 0 built.end (session_keeps smallest 1000 new_tree new_disk built.end built.session) n (omega arith) high image is in
    left_by built.when built.end.h n k image built.entries built.commits boundary recovers
