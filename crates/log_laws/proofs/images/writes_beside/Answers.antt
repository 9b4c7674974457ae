use Rattle.log_laws.proofs.ImageSteps.{written_beside, same_log_of, log_same}
use Rattle.log_laws.proofs.images.writes_beside.Goals as goal

pub returns-clause-same : goal.returns-clause-same
returns-clause-same c = written_beside

pub returns-clause-mount : goal.returns-clause-mount
returns-clause-mount c = same_log_of

pub returns-clause-log : goal.returns-clause-log
returns-clause-log c = log_same
