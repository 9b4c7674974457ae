use Rattle.log_laws.proofs.WholeRun.{whole_loggable}
use Rattle.log_laws.proofs.reading.whole_run_is_loggable.Goals as goal

pub returns : goal.returns
returns c = whole_loggable
