use Rattle.volume_laws.proofs.VerdictLaws.{clean_is_sound, finding_is_answered}
use Rattle.volume_laws.proofs.soundness.verdicts.Goals as goal

pub returns-clause-clean : goal.returns-clause-clean
returns-clause-clean c = clean_is_sound

pub returns-clause-finding : goal.returns-clause-finding
returns-clause-finding c = finding_is_answered
