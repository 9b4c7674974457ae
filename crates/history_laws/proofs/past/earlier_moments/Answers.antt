-- Entry by entry.
use Rattle.history_laws.proofs.PastMoments.{past}
use Rattle.history_laws.proofs.past.earlier_moments.Goals as goal

pub returns : goal.returns
returns c = λ g moment opening h k r more n within adds. past g moment opening n h k adds r more within
