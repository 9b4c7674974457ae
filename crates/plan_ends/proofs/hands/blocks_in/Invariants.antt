use Rattle.std.proofs.Common.{◌≡◌, take}
use Rattle.meta_store.specs.Changes.{numbers_in}
use Rattle.plan_ends.proofs.hands.blocks_in.Given as goal

abbrev pub invariant-loop-b : goal.invariant-loop-b
invariant-loop-b l = numbers_in l.blocks.items ≡ take l.b-index l.b-items
