use Rattle.draft_laws.proofs.FileAttached.{file_pointer_attached}
use Rattle.draft_laws.proofs.files.file_pointer_attached.Goals as goal

pub returns : goal.returns
returns c g base taken change hands after i p u d file draft has is type size direct none indirect count above held may =
    file_pointer_attached g base taken change hands after i u d file draft has is type size p direct none indirect count above held may
