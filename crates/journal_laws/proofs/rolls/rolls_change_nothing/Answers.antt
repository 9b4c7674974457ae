use Rattle.journal_laws.proofs.KeptSteps.{geometry_of_safe}
use Rattle.journal_laws.proofs.RollSteps.{roll_unchanged}
use Rattle.journal_laws.proofs.rolls.rolls_change_nothing.Goals as goal

pub returns : goal.returns
returns c = λ g roles r j k move calls v step is safe may. roll_unchanged g roles r j k move calls v step (geometry_of_safe g roles r j safe) is safe may
