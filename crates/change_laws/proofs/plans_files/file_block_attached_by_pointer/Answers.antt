use Rattle.change_laws.proofs.FileByPointer.{file_by_pointer}
use Rattle.change_laws.proofs.plans_files.file_block_attached_by_pointer.Goals as goal

pub returns : goal.returns
returns c g blocks middle others i j b u d file hands after has agree number writes type size direct indirect count has_pointer below empty held =
    file_by_pointer g blocks middle others i j b u d file hands after has agree number writes type size direct indirect count has_pointer below empty held
