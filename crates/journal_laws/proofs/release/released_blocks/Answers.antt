use Rattle.journal_laws.proofs.ReleasedBlocks.{may_be_given_out}
use Rattle.journal_laws.proofs.release.released_blocks.Goals as goal

pub returns : goal.returns
returns c g roles r j b safe = may_be_given_out g roles r j safe b
