use Rattle.block_alloc.proofs.Counted.{most_clear}
use Rattle.block_alloc.proofs.records.count_clear_inodes.Goals as goal

pub returns-in-Some-clause-most : goal.returns-in-Some-clause-most
returns-in-Some-clause-most c = most_clear _ _ _ 1024 c.count_clear.ensures c.requires.ipg_high
