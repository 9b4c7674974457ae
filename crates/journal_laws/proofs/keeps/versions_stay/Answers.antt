use Rattle.journal_laws.proofs.KeptSteps.{step_versions}
use Rattle.journal_laws.proofs.keeps.versions_stay.Goals as goal

pub returns : goal.returns
returns c = step_versions
