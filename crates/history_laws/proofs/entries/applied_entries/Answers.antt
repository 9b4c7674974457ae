-- By whether the entry touches the byte.
use Rattle.history_laws.proofs.AppliedBytes.{applied_kept}
use Rattle.history_laws.proofs.entries.applied_entries.Goals as goal

pub returns : goal.returns
returns c = applied_kept
