use Rattle.draft_laws.proofs.FileSizes.{file_lengthened}
use Rattle.draft_laws.proofs.files.file_lengthened.Goals as goal

pub returns : goal.returns
returns c g base taken change hands i u d file draft has is type direct indirect count more few =
    file_lengthened g base taken change hands i u d file draft has is type direct indirect count more few
