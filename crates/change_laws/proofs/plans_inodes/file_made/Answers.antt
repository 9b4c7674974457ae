use Rattle.change_laws.proofs.NewNodes.{made_reading, file_stored, file_tree}
use Rattle.change_laws.proofs.plans_inodes.file_made.Goals as goal

pub returns : goal.returns
returns c g blocks others i d hands after ok stored more writes just file size = record {
  reading = made_reading g blocks others i d hands ok stored writes;
  stored = file_stored g blocks others i d hands after ok stored more writes just file size;
  tree = file_tree g blocks others i d hands after ok stored more writes just file size;
}
