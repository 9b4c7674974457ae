use Rattle.change_laws.proofs.OneBit.{block_group, inode_group}
use Rattle.change_laws.proofs.bits.group_stays.Goals as goal

pub returns-clause-block : goal.returns-clause-block
returns-clause-block c = block_group

pub returns-clause-inode : goal.returns-clause-inode
returns-clause-inode c = inode_group
