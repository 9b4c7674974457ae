use Rattle.volume_laws.proofs.GroupRecords.{group_back}
use Rattle.volume_laws.proofs.records.group_read_back.Goals as goal

pub returns : goal.returns
returns c = group_back
