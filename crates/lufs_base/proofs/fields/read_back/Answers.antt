use Rattle.lufs_base.proofs.Spelling.{read_back_of}
use Rattle.lufs_base.proofs.fields.read_back.Goals as goal

pub returns : goal.returns
returns c = read_back_of
