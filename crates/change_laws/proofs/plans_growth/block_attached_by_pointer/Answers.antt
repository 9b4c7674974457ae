use Rattle.change_laws.proofs.ByPointer.{by_pointer_reading, by_pointer_stored, by_pointer_tree}
use Rattle.change_laws.proofs.plans_growth.block_attached_by_pointer.Goals as goal

pub returns : goal.returns
returns c g blocks middle others i j b u d directory slots hands after has agree number writes grows direct indirect count has_pointer below eight held there = record {
  reading = by_pointer_reading g blocks middle others i j b u d directory slots hands after has.geometry has.stored has.used has.stands agree number writes grows direct indirect count has_pointer below eight held there;
  stored = by_pointer_stored g blocks middle others i j b u d directory slots hands after has.geometry has.stored has.used has.stands agree number writes grows direct indirect count has_pointer below eight held there;
  tree = by_pointer_tree g blocks middle others i j b u d directory slots hands after has.geometry has.stored has.used has.stands agree number writes grows direct indirect count has_pointer below eight held there;
}
