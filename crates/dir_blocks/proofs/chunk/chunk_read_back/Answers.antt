use Rattle.dir_blocks.proofs.WrittenSlots.{chunk_read_back_of}
use Rattle.dir_blocks.proofs.chunk.chunk_read_back.Goals as goal

pub returns : goal.returns
returns c = chunk_read_back_of
