use Rattle.plan_ends.proofs.LinksRemoved.{removed_links, plain_slots}
use Rattle.plan_ends.proofs.removed.links_removed.Goals as goal

pub returns-clause-removed : goal.returns-clause-removed
returns-clause-removed c g tree p i moment j right is_dir found apart real = removed_links g tree p i moment j right is_dir found apart real

pub returns-clause-plain : goal.returns-clause-plain
returns-clause-plain c = plain_slots
