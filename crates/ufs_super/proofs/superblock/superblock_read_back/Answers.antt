use Rattle.ufs_super.proofs.SuperblockBytes.{super_reads}
use Rattle.ufs_super.proofs.superblock.superblock_read_back.Goals as goal

pub returns : goal.returns
returns c = super_reads
