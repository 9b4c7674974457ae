use Rattle.change_laws.proofs.OneBit.{block_put_back, inode_put_back}
use Rattle.change_laws.proofs.bits.one_put_back.Goals as goal

pub returns-clause-block : goal.returns-clause-block
returns-clause-block c g r n place hands old new ok stored within below is put counts =
    block_put_back g n place r old is ok hands new within counts stored below put

pub returns-clause-inode : goal.returns-clause-inode
returns-clause-inode c g r n place hands old new ok stored within below is put counts =
    inode_put_back g n place r old is ok hands new within counts stored below put
