use Rattle.change_laws.proofs.CutSteps.{cut_in_record}
use Rattle.change_laws.proofs.plans_cut.cut_to.Goals as goal

pub returns : goal.returns
returns c g blocks others i s u d file hands after has writes type smaller size low direct indirect count held =
    cut_in_record g blocks others i s u d file hands after has writes type smaller size low direct indirect count held
