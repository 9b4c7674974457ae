use Rattle.change_laws.proofs.InodeWrites.{unread, written_record, written_block, one_after_another}
use Rattle.change_laws.proofs.plans_writes.one_inode_written.Goals as goal

pub returns-clause-unread : goal.returns-clause-unread
returns-clause-unread c g blocks others i ok within agree = unread g blocks others i ok within agree

pub returns-clause-record : goal.returns-clause-record
returns-clause-record c g blocks others i ok laid within agree = written_record g blocks others i ok within laid agree

pub returns-clause-block : goal.returns-clause-block
returns-clause-block c = written_block

pub returns-clause-chain : goal.returns-clause-chain
returns-clause-chain c = one_after_another
