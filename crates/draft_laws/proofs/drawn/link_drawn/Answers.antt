use Rattle.draft_laws.proofs.NewSteps.{link_drawn}
use Rattle.draft_laws.proofs.drawn.link_drawn.Goals as goal

pub returns : goal.returns
returns c g base taken change hands after i b d text draft more may is just link size long few =
    link_drawn g base taken change hands after i b d draft more may is just text link size long few
