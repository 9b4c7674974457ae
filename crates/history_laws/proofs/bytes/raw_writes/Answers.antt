-- What a named block gets is there already, or is a byte of an entry under way.
use Rattle.history_laws.proofs.RawBytes.{write_kept}
use Rattle.history_laws.proofs.bytes.raw_writes.Goals as goal

pub returns : goal.returns
returns c = λ g moment opening entries r first bytes readings held ok inside kept touched. write_kept g moment opening entries r first bytes readings held ok inside kept touched
