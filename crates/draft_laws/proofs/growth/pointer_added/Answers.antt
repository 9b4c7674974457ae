use Rattle.draft_laws.proofs.FirstPointerGrowth.{pointer_added}
use Rattle.draft_laws.proofs.growth.pointer_added.Goals as goal

pub returns : goal.returns
returns c g base taken change hands after i p b u d directory slots draft has is grows chunk held may_p may_b direct indirect count eight =
    pointer_added g base taken change hands after i p b u d directory slots draft has is grows chunk held may_p may_b direct indirect count eight
