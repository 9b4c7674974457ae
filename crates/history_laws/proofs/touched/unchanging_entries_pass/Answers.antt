-- By reply or by call.
use Rattle.history_laws.proofs.AppliedEntries.{entry_passes}
use Rattle.history_laws.proofs.touched.unchanging_entries_pass.Goals as goal

pub returns : goal.returns
returns c = entry_passes
