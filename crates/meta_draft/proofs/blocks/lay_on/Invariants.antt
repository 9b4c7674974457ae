use Rattle.std.proofs.Common.{◌≡◌, take}
use Rattle.meta_store.specs.Laid.{laid_block}
use Rattle.meta_store.specs.Changes.{deltas_on}
use Rattle.meta_draft.proofs.blocks.lay_on.Given as goal

abbrev pub invariant-loop-delta : goal.invariant-loop-delta
invariant-loop-delta l = l.block ≡ laid_block (deltas_on (take l.delta-index l.deltas) l.b.0) l.initial.block
