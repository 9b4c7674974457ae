-- The roles stay, and what goes back had its bit set.
use Rattle.store_laws.proofs.AmendedRecords.{step_of_amended, reads_amended, running_amended, read_amended}
use Rattle.store_laws.proofs.back.amends_are_steps.Goals as goal

pub returns-clause-step : goal.returns-clause-step
returns-clause-step c = λ g roles r j hands after told n bytes returned safe may. step_of_amended g roles r j hands after told n bytes returned safe may

pub returns-clause-reading : goal.returns-clause-reading
returns-clause-reading c = λ g roles r j hands after told n bytes returned safe may. reads_amended g roles r j hands after told n bytes returned safe may

pub returns-clause-running : goal.returns-clause-running
returns-clause-running c = λ g roles r j hands after told n bytes returned safe may. running_amended g roles r j hands after told n bytes returned safe may

pub returns-clause-read : goal.returns-clause-read
returns-clause-read c = λ g roles r j hands after told n bytes returned safe may. read_amended g roles r j hands after told n bytes returned safe may
