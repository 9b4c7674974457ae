use Rattle.log_laws.proofs.HeaderBytes.{header_spells}
use Rattle.log_laws.proofs.reading.header_spelled_again.Goals as goal

pub returns : goal.returns
returns c = header_spells
