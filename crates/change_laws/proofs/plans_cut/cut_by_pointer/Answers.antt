use Rattle.change_laws.proofs.CutSteps.{cut_in_pointers}
use Rattle.change_laws.proofs.plans_cut.cut_by_pointer.Goals as goal

pub returns : goal.returns
returns c g blocks middle others i j n u d file hands after has has_pointer inside all_past agree cleared writes type smaller size high direct indirect count held =
    cut_in_pointers g blocks middle others i j n u d file hands after has has_pointer inside all_past agree cleared writes type smaller size high direct indirect count held
