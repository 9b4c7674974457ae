use Rattle.std.proofs.Common.{refl}
use Rattle.block_alloc.proofs.CountedGroups.{with_counts}
use Rattle.block_alloc.proofs.marks.counted.Goals as goal

pub returns-clause-group : goal.returns-clause-group
returns-clause-group c =
    let x = c.args.group.now in
    with_counts c.args.g.now x _ c.requires.geometry c.requires.group.0 c.requires.group.1 refl refl refl refl refl c.count_clear.ensures c.count_clear-2.ensures
