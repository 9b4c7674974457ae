use Rattle.change_laws.proofs.OneBit.{block_set, block_cleared, inode_set, inode_cleared}
use Rattle.change_laws.proofs.bits.counts_stay_right.Goals as goal

pub returns-clause-block_set : goal.returns-clause-block_set
returns-clause-block_set c = block_set

pub returns-clause-block_cleared : goal.returns-clause-block_cleared
returns-clause-block_cleared c = block_cleared

pub returns-clause-inode_set : goal.returns-clause-inode_set
returns-clause-inode_set c = inode_set

pub returns-clause-inode_cleared : goal.returns-clause-inode_cleared
returns-clause-inode_cleared c = inode_cleared
