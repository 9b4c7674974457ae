use Rattle.change_laws.proofs.GrowthSteps.{written_reading, size_stored, size_tree}
use Rattle.change_laws.proofs.plans_growth.size_grown.Goals as goal

pub returns : goal.returns
returns c g blocks others i u d directory slots hands has writes grows direct indirect count inside there = record {
  reading = written_reading g blocks others i u d directory slots hands has.geometry has.stored has.used has.stands writes grows;
  stored = size_stored g blocks others i u d directory slots hands has.geometry has.stored has.used has.stands writes grows direct indirect count inside there;
  tree = size_tree g blocks others i u d directory slots hands has.geometry has.stored has.used has.stands writes grows direct indirect count inside there;
}
