use Rattle.journal_laws.proofs.KeptSteps.{step_keeps}
use Rattle.journal_laws.proofs.keeps.steps_keep.Goals as goal

pub returns : goal.returns
returns c = step_keeps
