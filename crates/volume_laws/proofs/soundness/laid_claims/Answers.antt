use Rattle.volume_laws.proofs.LaidClaims.{sound_is_laid, one_claim, length_of_claim, metadata_of_claim}
use Rattle.volume_laws.proofs.soundness.laid_claims.Goals as goal

pub returns-clause-sound : goal.returns-clause-sound
returns-clause-sound c = sound_is_laid

pub returns-clause-one : goal.returns-clause-one
returns-clause-one c = one_claim

pub returns-clause-read : goal.returns-clause-read
returns-clause-read c = length_of_claim

pub returns-clause-metadata : goal.returns-clause-metadata
returns-clause-metadata c = metadata_of_claim
