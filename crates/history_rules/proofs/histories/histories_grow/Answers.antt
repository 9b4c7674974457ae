-- By the entries, one after the other.
use Rattle.history_rules.proofs.HistoryLaws.{replay-append, replay-whole, replayed-last, legal-last}
use Rattle.history_rules.proofs.histories.histories_grow.Goals as goal

pub returns-clause-replay : goal.returns-clause-replay
returns-clause-replay c = replay-append

pub returns-clause-whole : goal.returns-clause-whole
returns-clause-whole c = replay-whole

pub returns-clause-last : goal.returns-clause-last
returns-clause-last c = replayed-last

pub returns-clause-legal : goal.returns-clause-legal
returns-clause-legal c = legal-last
