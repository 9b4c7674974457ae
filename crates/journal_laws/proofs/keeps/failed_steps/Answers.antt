use Rattle.journal_laws.proofs.KeptSteps.{failed_step}
use Rattle.journal_laws.proofs.keeps.failed_steps.Goals as goal

pub returns : goal.returns
returns c = failed_step
