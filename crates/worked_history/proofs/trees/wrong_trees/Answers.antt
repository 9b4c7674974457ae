-- Of each, one inode is computed.
use Rattle.std.proofs.Common.{lit<}
use Rattle.std.proofs.lemmas.Bool.{true≢false}
use Rattle.worked_history.proofs.trees.wrong_trees.Goals as goal

pub returns-clause-two_names : goal.returns-clause-two_names
returns-clause-two_names c = λ right. true≢false (right.names.parents 3 (lit< tt))

pub returns-clause-apart : goal.returns-clause-apart
returns-clause-apart c = λ right. true≢false (right.names.parents 3 (lit< tt))

pub returns-clause-unused : goal.returns-clause-unused
returns-clause-unused c = λ right. true≢false (right.names.used 2 (lit< tt))
