use Rattle.volume_laws.proofs.WholeBlocks.{whole_image}
use Rattle.volume_laws.proofs.soundness.whole_blocks.Goals as goal

pub returns : goal.returns
returns c = whole_image
