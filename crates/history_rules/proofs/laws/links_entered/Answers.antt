-- By the slots that the name takes.
use Rattle.history_rules.proofs.LinkLaws.{links-enter}
use Rattle.history_rules.proofs.laws.links_entered.Goals as goal

pub returns : goal.returns
returns c = λ g tree dir name i j d real there below. links-enter name i j real g tree dir d there below
