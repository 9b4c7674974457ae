use Rattle.draft_laws.proofs.NewSteps.{file_drawn}
use Rattle.draft_laws.proofs.drawn.file_drawn.Goals as goal

pub returns : goal.returns
returns c = file_drawn
