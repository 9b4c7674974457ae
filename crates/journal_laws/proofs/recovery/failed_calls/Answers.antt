use Rattle.journal_laws.proofs.KeptSteps.{step_keeps}
use Rattle.journal_laws.proofs.RecoveredVersions.{after_failure}
use Rattle.journal_laws.proofs.recovery.failed_calls.Goals as goal

pub returns : goal.returns
returns c = λ g roles r after j k move calls image safe step failed left.
    after_failure g roles r after j k move calls image safe step (step_keeps g roles r j k move calls safe step) failed left
