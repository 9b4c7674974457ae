-- By the image that is mounted, and by what each call makes of a file.
use Rattle.history_laws.proofs.UntouchedBytes.{whole_stays, whole_along}
use Rattle.history_laws.proofs.WholeOpenings.{whole_session}
use Rattle.history_laws.proofs.touched.blocks_stay_whole.Goals as goal

pub returns-clause-opening : goal.returns-clause-opening
returns-clause-opening c = whole_session

pub returns-clause-call : goal.returns-clause-call
returns-clause-call c = whole_stays

pub returns-clause-history : goal.returns-clause-history
returns-clause-history c = λ g moment opening entries k. whole_along g moment opening entries k
