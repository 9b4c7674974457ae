use Rattle.volume_laws.proofs.InodeRecords.{inode_spelled_again}
use Rattle.volume_laws.proofs.records.dinode_spelled_again.Goals as goal

pub returns : goal.returns
returns c = inode_spelled_again
