use Rattle.draft_laws.proofs.FreedInode.{all_claimed, pointer_metadata, index_metadata}
use Rattle.draft_laws.proofs.freeing.blocks_of_inode.Goals as goal

pub returns-clause-claimed : goal.returns-clause-claimed
returns-clause-claimed c = all_claimed

pub returns-clause-pointer : goal.returns-clause-pointer
returns-clause-pointer c = pointer_metadata

pub returns-clause-index : goal.returns-clause-index
returns-clause-index c g blocks hands i u k stored used = index_metadata g blocks hands i u stored used k
