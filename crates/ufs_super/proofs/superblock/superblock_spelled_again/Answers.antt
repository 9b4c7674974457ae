use Rattle.ufs_super.proofs.SuperblockBytes.{super_spells}
use Rattle.ufs_super.proofs.superblock.superblock_spelled_again.Goals as goal

pub returns : goal.returns
returns c = super_spells
