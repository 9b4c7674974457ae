use Rattle.lufs_base.proofs.Places.{one_region_of}
use Rattle.lufs_base.proofs.geometry.one_region.Goals as goal

pub returns : goal.returns
returns c = one_region_of
