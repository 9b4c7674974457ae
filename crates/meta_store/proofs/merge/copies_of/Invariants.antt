use Rattle.std.proofs.Common.{◌≡◌, take}
use Rattle.meta_store.proofs.merge.copies_of.Given as goal

abbrev pub invariant-loop-delta : goal.invariant-loop-delta
invariant-loop-delta l = l.all.items ≡ take l.delta-index l.deltas
