use Rattle.std.proofs.Common.{refl}
use Rattle.file_map.proofs.CountedGroups.{with_counts}
use Rattle.file_map.proofs.group_bits.counted.Goals as goal

pub returns-clause-group : goal.returns-clause-group
returns-clause-group c =
    let x = c.args.group.now in
    with_counts c.args.g.now x _ c.requires.geometry c.requires.sizes c.requires.group refl refl refl refl refl c.count_clear.ensures c.count_clear-2.ensures
