use Rattle.lufs_base.proofs.Spelling.{number_in_same}
use Rattle.lufs_base.proofs.fields.its_bytes_alone.Goals as goal

pub returns : goal.returns
returns c = number_in_same
