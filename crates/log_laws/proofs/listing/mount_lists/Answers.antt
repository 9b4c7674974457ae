use Rattle.log_laws.proofs.MountLists.{log_listed}
use Rattle.log_laws.proofs.ImageSteps.{mounts, no_later_ident}
use Rattle.log_laws.proofs.listing.mount_lists.Goals as goal

pub returns-clause-ring : goal.returns-clause-ring
returns-clause-ring c = log_listed

pub returns-clause-log : goal.returns-clause-log
returns-clause-log c = mounts

pub returns-clause-idents : goal.returns-clause-idents
returns-clause-idents c = no_later_ident
