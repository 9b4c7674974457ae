use Rattle.log_laws.proofs.HeaderBytes.{header_reads}
use Rattle.log_laws.proofs.reading.header_read_back.Goals as goal

pub returns : goal.returns
returns c = header_reads
