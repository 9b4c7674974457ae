-- By what a decision leaves.
use Rattle.history_rules.proofs.RefusedLaws.{refused_tree, refused_wants}
use Rattle.history_rules.proofs.laws.refused_changes_nothing.Goals as goal

pub returns-clause-tree : goal.returns-clause-tree
returns-clause-tree c = λ g tree cred ino moment call why is. refused_tree g tree cred call why ino moment is

pub returns-clause-wanted : goal.returns-clause-wanted
returns-clause-wanted c = refused_wants
