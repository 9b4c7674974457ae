-- By what a mount recovers.
use Rattle.history_laws.proofs.NowSafe.{now_safe}
use Rattle.history_laws.proofs.now.present_moment.Goals as goal

pub returns : goal.returns
returns c = now_safe
