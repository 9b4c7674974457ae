use Rattle.change_laws.proofs.GrowthSteps.{written_reading}
use Rattle.change_laws.proofs.DirectBlock.{direct_stored, direct_tree}
use Rattle.change_laws.proofs.plans_growth.block_attached.Goals as goal

pub returns : goal.returns
returns c g blocks others i k b u d directory slots hands after has writes grows direct indirect count below eight held there = record {
  reading = written_reading g blocks others i u d directory slots hands has.geometry has.stored has.used has.stands writes grows;
  stored = direct_stored g blocks others i k b u d directory slots hands after has.geometry has.stored has.used has.stands writes grows direct indirect count below eight held there;
  tree = direct_tree g blocks others i k b u d directory slots hands after has.geometry has.stored has.used has.stands writes grows direct indirect count below eight held there;
}
