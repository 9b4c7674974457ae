use Rattle.change_laws.proofs.FileSteps.{lengthened}
use Rattle.change_laws.proofs.plans_files.file_lengthened.Goals as goal

pub returns : goal.returns
returns c g blocks others i u d file hands has writes type direct indirect count more few = lengthened g blocks others i u d file hands has writes type direct indirect count more few
