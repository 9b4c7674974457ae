use Rattle.change_laws.proofs.ChunkSteps.{chunk_reading, chunk_stored, chunk_tree}
use Rattle.change_laws.proofs.plans_chunks.chunk_replaced.Goals as goal

pub returns : goal.returns
returns c g blocks others i k u directory slots hands has below agree there = record {
  reading = chunk_reading g blocks others i k u directory slots hands has.geometry has.stored has.used has.stands below agree there;
  stored = chunk_stored g blocks others i k u directory slots hands has.geometry has.stored has.used has.stands below agree there;
  tree = chunk_tree g blocks others i k u directory slots hands has.geometry has.stored has.used has.stands below agree there;
}
