use Rattle.change_laws.proofs.BitCounts.{one_less, one_more}
use Rattle.change_laws.proofs.bits.bits_counted.Goals as goal

pub returns-clause-set : goal.returns-clause-set
returns-clause-set c = one_less

pub returns-clause-cleared : goal.returns-clause-cleared
returns-clause-cleared c = one_more
