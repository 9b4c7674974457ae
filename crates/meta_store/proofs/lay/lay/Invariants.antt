use Rattle.std.proofs.Common.{◌≡◌, take}
use Rattle.meta_store.specs.Laid.{laid_block}
use Rattle.meta_store.proofs.lay.lay.Given as goal

abbrev pub invariant-loop-delta : goal.invariant-loop-delta
invariant-loop-delta l = l.block ≡ laid_block (take l.delta-index l.deltas) l.initial.block
