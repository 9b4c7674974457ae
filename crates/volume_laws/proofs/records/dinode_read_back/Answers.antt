use Rattle.volume_laws.proofs.InodeRecords.{inode_back, free_back}
use Rattle.volume_laws.proofs.records.dinode_read_back.Goals as goal

pub returns-clause-inode : goal.returns-clause-inode
returns-clause-inode c = inode_back

pub returns-clause-free : goal.returns-clause-free
returns-clause-free c = free_back
