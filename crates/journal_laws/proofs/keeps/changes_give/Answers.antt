use Rattle.journal_laws.proofs.ChangedBytes.{changed_bytes}
use Rattle.journal_laws.proofs.keeps.changes_give.Goals as goal

pub returns : goal.returns
returns c = λ g roles r j change to running image address safe moves kept. changed_bytes g roles r j change to running safe moves image address kept
