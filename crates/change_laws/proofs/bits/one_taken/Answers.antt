use Rattle.change_laws.proofs.OneBit.{block_taken, inode_taken}
use Rattle.change_laws.proofs.bits.one_taken.Goals as goal

pub returns-clause-block : goal.returns-clause-block
returns-clause-block c g r n place hands old new ok stored within low below is clear put counts =
    block_taken g n place r old is ok hands new within counts stored low below clear put

pub returns-clause-inode : goal.returns-clause-inode
returns-clause-inode c g r n place hands old new ok stored within below low inside is clear put counts =
    inode_taken g n place r old is ok hands new within counts stored below low inside clear put
