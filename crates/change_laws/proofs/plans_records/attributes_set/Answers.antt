use Rattle.change_laws.proofs.AttributeSteps.{set_reading, set_stored, set_tree}
use Rattle.change_laws.proofs.plans_records.attributes_set.Goals as goal

pub returns : goal.returns
returns c g blocks others i u d node hands has writes keeps = record {
  reading = set_reading g blocks others i u d hands has.geometry has.stored has.used writes keeps;
  stored = set_stored g blocks others i u d hands has.geometry has.stored has.used writes keeps;
  tree = set_tree g blocks others i u d hands has.geometry has.stored has.used writes keeps node has.stands;
}
