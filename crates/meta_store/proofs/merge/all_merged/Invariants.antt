use Rattle.std.proofs.Common.{◌≡◌, take}
use Rattle.std.specs.Prelude.{All}
use Rattle.meta_store.specs.Laid.{IsWithinBlock}
use Rattle.meta_store.specs.Merged.{all_merged}
use Rattle.meta_store.proofs.merge.all_merged.Given as goal

abbrev pub invariant-loop-delta : goal.invariant-loop-delta
invariant-loop-delta l =
    record {
      list : l.all.items ≡ all_merged l.fn.deltas (take l.delta-index l.more);
      within : All IsWithinBlock l.all.items;
    }
