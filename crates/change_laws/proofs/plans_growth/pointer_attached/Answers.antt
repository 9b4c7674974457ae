use Rattle.change_laws.proofs.GrowthSteps.{written_reading}
use Rattle.change_laws.proofs.FirstPointer.{pointer_stored, pointer_tree}
use Rattle.change_laws.proofs.plans_growth.pointer_attached.Goals as goal

pub returns : goal.returns
returns c g blocks others i p b u d directory slots hands after has writes grows direct indirect count eight held row there = record {
  reading = written_reading g blocks others i u d directory slots hands has.geometry has.stored has.used has.stands writes grows;
  stored = pointer_stored g blocks others i p b u d directory slots hands after has.geometry has.stored has.used has.stands writes grows direct indirect count eight held row there;
  tree = pointer_tree g blocks others i p b u d directory slots hands after has.geometry has.stored has.used has.stands writes grows direct indirect count eight held row there;
}
