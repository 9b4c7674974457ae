-- There is no entry that touches it.
use Rattle.history_rules.proofs.HistoryLaws.{settled-opening}
use Rattle.history_rules.proofs.histories.opening_settles.Goals as goal

pub returns : goal.returns
returns c = settled-opening
