-- Byte by byte, but on blocks that are cancelled, which nothing claims then.
use Rattle.history_laws.proofs.ChangedContents.{same_front_of, changed_reading, changed_running}
use Rattle.history_laws.proofs.volumes.changed_contents.Goals as goal

pub returns-clause-running : goal.returns-clause-running
returns-clause-running c = λ g roles r j change to running image hands shape safe moves lays made sound has are. (
  changed_running g roles r j safe change to running moves lays image made hands shape sound has are,
  changed_reading g roles r j safe change to running moves lays image made hands shape sound has are,
)

pub returns-clause-blocks : goal.returns-clause-blocks
returns-clause-blocks c = λ g roles r j change to running image b n safe moves lays made claimed. same_front_of g roles r j safe change to running moves lays image made b n claimed
