use Rattle.journal_laws.proofs.RecoveredVersions.{recovers}
use Rattle.journal_laws.proofs.recovery.recovered_versions.Goals as goal

pub returns : goal.returns
returns c = recovers
