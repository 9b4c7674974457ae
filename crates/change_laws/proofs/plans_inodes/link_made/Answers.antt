use Rattle.change_laws.proofs.NewNodes.{made_reading, link_stored, link_tree}
use Rattle.change_laws.proofs.plans_inodes.link_made.Goals as goal

pub returns : goal.returns
returns c g blocks others i b d hands after ok stored more writes just link some few = record {
  reading = made_reading g blocks others i d hands ok stored writes;
  stored = link_stored g blocks others i b d hands after ok stored more writes just link some few;
  tree = link_tree g blocks others i b d hands after ok stored more writes just link some few;
}
