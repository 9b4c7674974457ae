use Rattle.change_laws.proofs.InodeWrites.{stored_after, laid_after}
use Rattle.change_laws.proofs.plans_writes.one_inode_exchanged.Goals as goal

pub returns-clause-stored : goal.returns-clause-stored
returns-clause-stored c g blocks others i hands after stored only exchange = stored_after g blocks others i hands after stored only exchange

pub returns-clause-laid : goal.returns-clause-laid
returns-clause-laid c g blocks others i hands after stored only exchanged = laid_after g blocks others i hands after stored only exchanged
