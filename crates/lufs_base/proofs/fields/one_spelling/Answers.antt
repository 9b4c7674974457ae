use Rattle.lufs_base.proofs.Spelling.{one_spelling_of}
use Rattle.lufs_base.proofs.fields.one_spelling.Goals as goal

pub returns : goal.returns
returns c = one_spelling_of
