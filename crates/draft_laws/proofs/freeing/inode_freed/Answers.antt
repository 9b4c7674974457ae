use Rattle.draft_laws.proofs.FreedInode.{freed_drawn}
use Rattle.draft_laws.proofs.freeing.inode_freed.Goals as goal

pub returns : goal.returns
returns c = freed_drawn
