-- Of each step but a change.
use Rattle.store_laws.proofs.ReadsStay.{still_read}
use Rattle.store_laws.proofs.steps.reads_stay.Goals as goal

pub returns : goal.returns
returns c = λ g roles r j k move calls safe step carried are read. still_read g roles r j k move calls safe step carried are read
