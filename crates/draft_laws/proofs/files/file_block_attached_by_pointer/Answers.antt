use Rattle.draft_laws.proofs.FileAttached.{file_block_attached_by_pointer}
use Rattle.draft_laws.proofs.files.file_block_attached_by_pointer.Goals as goal

pub returns : goal.returns
returns c g base taken change hands after i j b u d file draft has is type size direct indirect count has_pointer below empty held new =
    file_block_attached_by_pointer g base taken change hands after i u d file draft has is type size j b direct indirect count has_pointer below empty held new
