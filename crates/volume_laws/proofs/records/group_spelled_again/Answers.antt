use Rattle.volume_laws.proofs.GroupRecords.{group_again}
use Rattle.volume_laws.proofs.records.group_spelled_again.Goals as goal

pub returns : goal.returns
returns c = group_again
