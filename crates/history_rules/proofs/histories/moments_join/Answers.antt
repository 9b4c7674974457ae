-- By where the moment lies.
use Rattle.history_rules.proofs.HistoryLaws.{safe-one, safe-join}
use Rattle.history_rules.proofs.histories.moments_join.Goals as goal

pub returns-clause-one : goal.returns-clause-one
returns-clause-one c = safe-one

pub returns-clause-join : goal.returns-clause-join
returns-clause-join c = safe-join
