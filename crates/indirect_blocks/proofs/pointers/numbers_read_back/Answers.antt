use Rattle.indirect_blocks.proofs.Numbers.{numbers_read_back_of}
use Rattle.indirect_blocks.proofs.pointers.numbers_read_back.Goals as goal

pub returns : goal.returns
returns c = numbers_read_back_of
