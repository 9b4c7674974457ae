use Rattle.plan_ends.proofs.TreeTold.{right_told, range_told, links_told}
use Rattle.plan_ends.proofs.plans.tree_told.Goals as goal

pub returns-clause-right : goal.returns-clause-right
returns-clause-right c g blocks tree hands stands = right_told g blocks tree hands stands

pub returns-clause-range : goal.returns-clause-range
returns-clause-range c g blocks tree hands stands = range_told g blocks tree hands stands

pub returns-clause-links : goal.returns-clause-links
returns-clause-links c g blocks tree hands i stands = links_told g blocks tree hands stands i
