use Rattle.dir_blocks.proofs.ReadSlots.{chunk_writable_of}
use Rattle.dir_blocks.proofs.chunk.chunk_writable.Goals as goal

pub returns : goal.returns
returns c = chunk_writable_of
