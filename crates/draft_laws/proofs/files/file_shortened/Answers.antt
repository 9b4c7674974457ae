use Rattle.draft_laws.proofs.FileSizes.{file_shortened}
use Rattle.draft_laws.proofs.files.file_shortened.Goals as goal

pub returns : goal.returns
returns c g base taken change hands i u d file draft has is type direct indirect count smaller high none =
    file_shortened g base taken change hands i u d file draft has is type direct indirect count smaller high none
