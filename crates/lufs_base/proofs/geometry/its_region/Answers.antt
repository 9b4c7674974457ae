use Rattle.lufs_base.proofs.Places.{lies_in_region}
use Rattle.lufs_base.proofs.geometry.its_region.Goals as goal

pub returns : goal.returns
returns c = lies_in_region
