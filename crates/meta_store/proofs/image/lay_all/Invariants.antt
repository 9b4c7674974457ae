use Rattle.std.proofs.Common.{◌≡◌, length, take}
use Rattle.meta_store.specs.Laid.{laid_over}
use Rattle.meta_store.specs.Changes.{deltas_on}
use Rattle.meta_store.proofs.image.lay_all.Given as goal

abbrev pub invariant-loop-delta : goal.invariant-loop-delta
invariant-loop-delta l =
    record {
      image : l.image.items ≡ laid_over (deltas_on (take l.delta-index l.deltas)) l.initial.image.items;
      size : length l.image.items ≡ length l.initial.image.items;
    }
