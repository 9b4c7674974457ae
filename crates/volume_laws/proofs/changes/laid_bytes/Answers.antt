use Rattle.volume_laws.proofs.LaidBytes.{laid_agree, laid_bytes, laid_whole}
use Rattle.volume_laws.proofs.changes.laid_bytes.Goals as goal

pub returns-clause-agree : goal.returns-clause-agree
returns-clause-agree c = laid_agree

pub returns-clause-bytes : goal.returns-clause-bytes
returns-clause-bytes c = laid_bytes

pub returns-clause-whole : goal.returns-clause-whole
returns-clause-whole c = laid_whole
