use Rattle.std.proofs.Common.{◌≡◌, ◌++◌, drop, IfSome}
use Rattle.std.specs.List.{filter}
use Rattle.meta_store.specs.Laid.{IsWithinBlock}
use Rattle.meta_store.specs.Merged.{stands_beside, merged, placed_left}
use Rattle.meta_store.proofs.merge.merged.Given as goal

abbrev pub invariant-loop-older : goal.invariant-loop-older
invariant-loop-older l =
    record {
      list : l.all.items ++ placed_left l.left (filter (stands_beside l.fn.delta) (drop l.older-index l.deltas)) ≡ merged l.fn.deltas l.fn.delta;
      left : IfSome l.left IsWithinBlock;
    }
