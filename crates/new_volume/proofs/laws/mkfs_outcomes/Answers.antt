use Rattle.new_volume.proofs.MkfsCrash.{outcome_of_some}
use Rattle.new_volume.proofs.laws.mkfs_outcomes.Goals as goal

pub returns : goal.returns
returns c = outcome_of_some
