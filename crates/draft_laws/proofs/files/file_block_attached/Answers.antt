use Rattle.draft_laws.proofs.FileAttached.{file_block_attached}
use Rattle.draft_laws.proofs.files.file_block_attached.Goals as goal

pub returns : goal.returns
returns c g base taken change hands after i k b u d file draft has is type size direct indirect count low below empty held new =
    file_block_attached g base taken change hands after i u d file draft has is type size k b direct indirect count low below empty held new
