use Rattle.std.proofs.Common.{◌≤◌, ◌*◌}
use Rattle.sector_disk.specs.Disk.{NoneFailed}
use Rattle.meta_store.specs.Changing.{IsAsBefore, all_told}
use Rattle.block_alloc.proofs.Counted.{AreClearTo}
use Rattle.block_alloc.proofs.free.count_clear_bits.Given as goal

-- the clear bits of the groups so far are counted
abbrev pub invariant-loop-n : goal.invariant-loop-n
invariant-loop-n g l = record {
  clear : AreClearTo (g.S.MetaRead.store l.fn.store).geometry (g.S.MetaRead.store l.fn.store).content l.n l.inodes l.blocks;
  most_inodes : l.inodes ≤ 1024 * l.n;
  most_blocks : l.blocks ≤ 2048 * l.n;
  same : IsAsBefore (all_told (g.S.MetaRead.store l.fn.store) (g.S.MetaRead.changing l.fn.store)) (all_told (g.S.MetaRead.store l.store) (g.S.MetaRead.changing l.store));
  none_failed : NoneFailed (g.S.MetaRead.store l.fn.store).disk (g.S.MetaRead.store l.store).disk;
}
