use Rattle.log_laws.proofs.CrashSteps.{crash_append, crash_trim}
use Rattle.log_laws.proofs.crashes.crashed_logs.Goals as goal

pub returns-clause-append : goal.returns-clause-append
returns-clause-append c = crash_append

pub returns-clause-trim : goal.returns-clause-trim
returns-clause-trim c = crash_trim
