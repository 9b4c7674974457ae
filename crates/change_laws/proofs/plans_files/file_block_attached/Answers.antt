use Rattle.change_laws.proofs.FileSteps.{attached_direct}
use Rattle.change_laws.proofs.plans_files.file_block_attached.Goals as goal

pub returns : goal.returns
returns c g blocks others i k b u d file hands after has writes type size direct indirect count low below empty held =
    attached_direct g blocks others i u d file hands has writes type k b after size direct indirect count low below empty held
