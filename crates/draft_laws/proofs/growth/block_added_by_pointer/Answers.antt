use Rattle.draft_laws.proofs.PointerGrowth.{block_added_by_pointer}
use Rattle.draft_laws.proofs.growth.block_added_by_pointer.Goals as goal

pub returns : goal.returns
returns c g base taken change hands after i j b u d directory slots draft has is grows chunk held may direct indirect count has_pointer below eight =
    block_added_by_pointer g base taken change hands after i j b u d directory slots draft has is grows chunk held may direct indirect count has_pointer below eight
