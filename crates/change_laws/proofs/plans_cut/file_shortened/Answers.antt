use Rattle.change_laws.proofs.CutSteps.{shortened}
use Rattle.change_laws.proofs.plans_cut.file_shortened.Goals as goal

pub returns : goal.returns
returns c g blocks others i u d file hands has writes type smaller high none direct indirect count = shortened g blocks others i u d file hands has writes type smaller high none direct indirect count
