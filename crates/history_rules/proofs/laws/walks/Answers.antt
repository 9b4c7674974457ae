-- By the parts of the path and the links that are followed.
use Rattle.history_rules.proofs.WalkLaws.{walk_ends}
use Rattle.history_rules.proofs.WalksLaws.{walk_is}
use Rattle.history_rules.proofs.laws.walks.Goals as goal

pub returns-clause-rules : goal.returns-clause-rules
returns-clause-rules c = walk_is

pub returns-clause-directory : goal.returns-clause-directory
returns-clause-directory c = walk_ends
