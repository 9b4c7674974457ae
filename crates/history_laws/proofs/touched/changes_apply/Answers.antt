-- A block that is claimed anew, no version claimed; and an untouched byte was there before.
use Rattle.history_laws.proofs.AppliedEntries.{entry_applied}
use Rattle.history_laws.proofs.touched.changes_apply.Goals as goal

pub returns : goal.returns
returns c = λ g moment opening first v to k hands entry whole step running is names touched keeps.
    entry_applied g moment opening first v keeps to k hands entry whole step running is names touched
