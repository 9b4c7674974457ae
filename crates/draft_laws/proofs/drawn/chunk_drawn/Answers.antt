use Rattle.draft_laws.proofs.ChunkStep.{chunk_drawn}
use Rattle.draft_laws.proofs.drawn.chunk_drawn.Goals as goal

pub returns : goal.returns
returns c = chunk_drawn
