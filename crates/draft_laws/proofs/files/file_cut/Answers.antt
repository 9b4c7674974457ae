use Rattle.draft_laws.proofs.FileSizes.{file_cut}
use Rattle.draft_laws.proofs.files.file_cut.Goals as goal

pub returns : goal.returns
returns c g base taken change hands after i s u d file draft has is type smaller size low direct indirect count held old =
    file_cut g base taken change hands i u d file draft has is type after s smaller size low direct indirect count held old
