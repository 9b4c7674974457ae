use Rattle.change_laws.proofs.AttributeSteps.{tree_kept}
use Rattle.change_laws.proofs.plans_records.links_set.Goals as goal

pub returns : goal.returns
returns c g blocks others i u d node hands has writes keeps same = tree_kept g blocks others i u d hands has.geometry has.stored has.used writes keeps same
