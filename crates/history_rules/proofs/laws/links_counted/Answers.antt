-- Row by row.
use Rattle.history_rules.proofs.LinkRangeLaws.{links-counted}
use Rattle.history_rules.proofs.laws.links_counted.Goals as goal

pub returns : goal.returns
returns c = links-counted
