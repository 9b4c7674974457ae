use Rattle.draft_laws.proofs.RecordSteps.{attributes_drawn}
use Rattle.draft_laws.proofs.drawn.attributes_drawn.Goals as goal

pub returns : goal.returns
returns c = attributes_drawn
