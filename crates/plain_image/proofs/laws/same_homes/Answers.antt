use Rattle.std.proofs.Common.{sym}
use Rattle.plain_image.proofs.SameHomes.{stands_too, verdict_too}
use Rattle.plain_image.proofs.laws.same_homes.Goals as goal

pub returns-clause-tree : goal.returns-clause-tree
returns-clause-tree c g blocks others tree hands ok same = (stands_too g ok blocks others tree hands same, stands_too g ok others blocks tree hands (λ b home. sym (same b home)))

pub returns-clause-verdict : goal.returns-clause-verdict
returns-clause-verdict c g blocks others hands ok same sound = verdict_too g ok blocks others hands same sound
