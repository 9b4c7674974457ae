use Rattle.draft_laws.proofs.NewSteps.{directory_drawn}
use Rattle.draft_laws.proofs.drawn.directory_drawn.Goals as goal

pub returns : goal.returns
returns c g base taken change hands after i b d slots draft more may is just chunk directory size =
    directory_drawn g base taken change hands after i b d draft more may is just slots chunk directory size
