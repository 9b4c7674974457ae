use Rattle.draft_laws.proofs.GrowthDrawn.{chunk_added}
use Rattle.draft_laws.proofs.growth.chunk_added.Goals as goal

pub returns : goal.returns
returns c g base taken change hands i u d directory slots draft has is grows chunk direct indirect count rest =
    chunk_added g base taken change hands i u d directory slots draft has is grows chunk direct indirect count rest
