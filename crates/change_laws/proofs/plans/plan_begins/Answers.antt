use Rattle.std.proofs.Common.{subst}
use Rattle.volume_model.specs.Sound.{Tree, IsRightTree}
use Rattle.volume_laws.proofs.SoundParts.{in_parts}
use Rattle.change_laws.proofs.plans.plan_begins.Goals as goal

pub returns-clause-stored : goal.returns-clause-stored
returns-clause-stored c g blocks tree hands stands = ((in_parts g blocks hands).0 stands.sound).0

pub returns-clause-right : goal.returns-clause-right
returns-clause-right c g blocks tree hands stands = subst (λ (t : Tree). IsRightTree g t) stands.stands ((in_parts g blocks hands).0 stands.sound).1

pub returns-clause-links : goal.returns-clause-links
returns-clause-links c g blocks tree hands stands = ((in_parts g blocks hands).0 stands.sound).2
