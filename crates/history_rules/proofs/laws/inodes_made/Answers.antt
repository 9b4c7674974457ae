-- By the three edits that make an inode.
use Rattle.history_rules.proofs.MakeLaws.{makes_usable}
use Rattle.history_rules.proofs.laws.inodes_made.Goals as goal

pub returns : goal.returns
returns c = makes_usable
