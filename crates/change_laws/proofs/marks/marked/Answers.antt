use Rattle.change_laws.proofs.OneGroup.{mark_stored}
use Rattle.change_laws.proofs.marks.marked.Goals as goal

pub returns-clause-stored : goal.returns-clause-stored
returns-clause-stored c = mark_stored
