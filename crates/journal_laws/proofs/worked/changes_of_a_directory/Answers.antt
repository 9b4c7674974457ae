use Rattle.journal_laws.proofs.WorkedSteps.{directory_made, directory_removed}
use Rattle.journal_laws.proofs.worked.changes_of_a_directory.Goals as goal

pub returns-clause-made : goal.returns-clause-made
returns-clause-made c = directory_made

pub returns-clause-removed : goal.returns-clause-removed
returns-clause-removed c = directory_removed
