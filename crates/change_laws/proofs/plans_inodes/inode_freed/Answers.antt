use Rattle.change_laws.proofs.NewNodes.{freed_reading, freed_stored, freed_tree}
use Rattle.change_laws.proofs.plans_inodes.inode_freed.Goals as goal

pub returns : goal.returns
returns c g blocks others i u node hands after has writes more = record {
  reading = freed_reading g blocks others i hands has.geometry has.stored writes;
  stored = freed_stored g blocks others i hands has.geometry has.stored writes u after has.used more;
  tree = freed_tree g blocks others i hands has.geometry has.stored writes;
}
