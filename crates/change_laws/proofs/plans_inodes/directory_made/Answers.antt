use Rattle.change_laws.proofs.NewNodes.{made_reading, directory_stored, directory_tree}
use Rattle.change_laws.proofs.plans_inodes.directory_made.Goals as goal

pub returns : goal.returns
returns c g blocks others i b d slots hands after ok stored more writes just directory size there = record {
  reading = made_reading g blocks others i d hands ok stored writes;
  stored = directory_stored g blocks others i b d hands after ok stored more writes just slots directory size there;
  tree = directory_tree g blocks others i b d hands after ok stored more writes just slots directory size there;
}
