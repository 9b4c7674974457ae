use Rattle.lufs_base.proofs.Spelling.{spelled_again_of}
use Rattle.lufs_base.proofs.fields.spelled_again.Goals as goal

pub returns : goal.returns
returns c = spelled_again_of
