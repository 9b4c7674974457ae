use Rattle.std.proofs.Common.{◌≡◌, ◌++◌, map, take, drop}
use Rattle.meta_store.specs.Changes.{amended}
use Rattle.meta_store.proofs.plain.amend_held.Given as goal

abbrev pub invariant-loop-delta : goal.invariant-loop-delta
invariant-loop-delta l = l.delta-items ≡ map (amended l.home l.bytes) (take l.delta-index l.initial.delta-items) ++ drop l.delta-index l.initial.delta-items
