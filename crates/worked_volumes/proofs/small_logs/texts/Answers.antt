use Rattle.std.proofs.Common.{refl}
use Rattle.std.specs.Fmt.{digits}
use Rattle.volume_model.specs.Texts.{scan_text}
use Rattle.worked_volumes.proofs.small_logs.texts.Goals as goal

pub returns-clause-empty : goal.returns-clause-empty
unfolding digits scan_text
returns-clause-empty c = refl

pub returns-clause-committed : goal.returns-clause-committed
unfolding digits scan_text
returns-clause-committed c = refl
