use Rattle.std.proofs.Common.{◌≡◌, take}
use Rattle.std.specs.List.{filter, range_with_len}
use Rattle.block_alloc.specs.Records.{may_give}
use Rattle.block_alloc.proofs.choice.lowest_blocks.Given as goal

-- the lowest of the blocks so far
abbrev pub invariant-loop-b : goal.invariant-loop-b
invariant-loop-b g l = l.blocks ≡ take l.n (filter (may_give (g.S.MetaRead.store l.store).geometry l.records (g.S.MetaRead.changing l.store).is_released) (range_with_len 0 l.b))
