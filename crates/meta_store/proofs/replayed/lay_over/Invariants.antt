use Rattle.meta_store.proofs.BlockRows.{AreLaidTo}
use Rattle.meta_store.proofs.replayed.lay_over.Given as goal

abbrev pub invariant-loop-k : goal.invariant-loop-k
invariant-loop-k l = AreLaidTo l.laid l.first.0 l.k l.fn.blocks l.blocks
