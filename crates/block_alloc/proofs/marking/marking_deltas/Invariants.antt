use Rattle.block_alloc.specs.Marks.{AreMarkings}
use Rattle.block_alloc.proofs.marking.marking_deltas.Given as goal

-- the groups so far are marked
abbrev pub invariant-loop-n : goal.invariant-loop-n
invariant-loop-n l = AreMarkings l.g l.records l.hand l.n l.deltas
