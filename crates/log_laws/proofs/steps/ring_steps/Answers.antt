use Rattle.log_laws.proofs.JournalSteps.{step_lists, step_new, step_seal, step_write, step_same, step_publish, step_trim}
use Rattle.log_laws.proofs.steps.ring_steps.Goals as goal

pub returns-clause-lists : goal.returns-clause-lists
returns-clause-lists c = step_lists

pub returns-clause-new : goal.returns-clause-new
returns-clause-new c = step_new

pub returns-clause-seal : goal.returns-clause-seal
returns-clause-seal c = step_seal

pub returns-clause-write : goal.returns-clause-write
returns-clause-write c = step_write

pub returns-clause-same : goal.returns-clause-same
returns-clause-same c = step_same

pub returns-clause-publish : goal.returns-clause-publish
returns-clause-publish c = step_publish

pub returns-clause-trim : goal.returns-clause-trim
returns-clause-trim c = step_trim
