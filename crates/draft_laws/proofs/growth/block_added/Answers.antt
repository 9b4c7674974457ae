use Rattle.draft_laws.proofs.GrowthDrawn.{block_added}
use Rattle.draft_laws.proofs.growth.block_added.Goals as goal

pub returns : goal.returns
returns c g base taken change hands after i k b u d directory slots draft has is grows chunk held may eight direct indirect count below =
    block_added g base taken change hands i u d directory slots draft has is grows chunk k b after held may eight direct indirect count below
