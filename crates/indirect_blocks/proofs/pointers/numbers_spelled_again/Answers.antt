use Rattle.indirect_blocks.proofs.Numbers.{numbers_spelled_again_of}
use Rattle.indirect_blocks.proofs.pointers.numbers_spelled_again.Goals as goal

pub returns : goal.returns
returns c = numbers_spelled_again_of
