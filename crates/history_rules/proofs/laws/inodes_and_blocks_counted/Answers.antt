-- By what each edit changes of the sums over all inodes.
use Rattle.history_rules.proofs.FreeLaws.{claimed_after, used_after}
use Rattle.history_rules.proofs.laws.inodes_and_blocks_counted.Goals as goal

pub returns-clause-inodes : goal.returns-clause-inodes
returns-clause-inodes c = λ g tree cred ino moment call used usable. used_after g tree used cred ino moment call usable

pub returns-clause-blocks : goal.returns-clause-blocks
returns-clause-blocks c = λ g tree cred ino moment call used right usable. claimed_after g tree used cred ino moment right call usable
