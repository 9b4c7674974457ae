use Rattle.sector_disk.proofs.OwnCalls.{continued}
use Rattle.sector_disk.proofs.continued.continued_records.Goals as goal

pub returns : goal.returns
returns c = continued
