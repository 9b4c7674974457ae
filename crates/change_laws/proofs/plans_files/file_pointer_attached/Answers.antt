use Rattle.change_laws.proofs.FileSteps.{attached_pointer}
use Rattle.change_laws.proofs.plans_files.file_pointer_attached.Goals as goal

pub returns : goal.returns
returns c g blocks others i p u d file hands after has writes type size direct none indirect count above row held =
    attached_pointer g blocks others i u d file hands has writes type p after size direct none indirect count above row held
