use Rattle.volume_laws.proofs.LessAgreement.{agree_in_metadata_but}
use Rattle.volume_laws.proofs.changes.agreement_in_metadata.Goals as goal

pub returns : goal.returns
returns c = agree_in_metadata_but
