use Rattle.std.proofs.Common.{take}
use Rattle.std.specs.Prelude.{All}
use Rattle.meta_store.specs.Laid.{IsWithinBlock}
use Rattle.meta_store.proofs.tests.are_within_blocks.Given as goal

abbrev pub invariant-loop-delta : goal.invariant-loop-delta
invariant-loop-delta l = All IsWithinBlock (take l.delta-index l.deltas)
