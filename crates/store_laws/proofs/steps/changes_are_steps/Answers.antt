-- The parts of a store's condition are those of the journal's.
use Rattle.store_laws.proofs.StepsOfChanges.{step_of_change, reads_changed, bytes_changed, running_changed, read_after}
use Rattle.store_laws.proofs.steps.changes_are_steps.Goals as goal

pub returns-clause-step : goal.returns-clause-step
returns-clause-step c = λ g roles r j hands after told change safe may none. step_of_change g roles r j hands after told change safe may none

pub returns-clause-reading : goal.returns-clause-reading
returns-clause-reading c = λ g roles r j hands after told change safe may none. reads_changed g roles r j hands after told change safe may none

pub returns-clause-running : goal.returns-clause-running
returns-clause-running c = λ g roles r j hands after told change safe may none. running_changed g roles r j hands after told change safe may none

pub returns-clause-read : goal.returns-clause-read
returns-clause-read c = λ g roles r j hands after told change safe may none. read_after g roles r j hands after told change safe may none

pub returns-clause-bytes : goal.returns-clause-bytes
returns-clause-bytes c = λ g roles r j hands after told change b n safe may none claimed. bytes_changed g roles r j hands after told change safe may none b n claimed
