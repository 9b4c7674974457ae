use Rattle.std.proofs.Common.{◌≡◌, take}
use Rattle.block_alloc.proofs.marking.copy_of.Given as goal

-- the blocks so far
abbrev pub invariant-loop-b : goal.invariant-loop-b
invariant-loop-b l = l.copy ≡ take l.b-index l.blocks
