use Rattle.plan_ends.proofs.LinksMade.{made_links, free_links}
use Rattle.plan_ends.proofs.plans.links_made.Goals as goal

pub returns-clause-made : goal.returns-clause-made
returns-clause-made c g tree p ino moment node j right is_dir usable real = made_links g tree p ino moment node j right is_dir usable real

pub returns-clause-free : goal.returns-clause-free
returns-clause-free c = free_links
