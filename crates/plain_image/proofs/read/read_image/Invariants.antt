use Rattle.std.proofs.Common.{◌≡◌, ◌*◌, length, IfSome}
use Rattle.sector_disk.specs.Disk.{NoneFailed}
use Rattle.meta_store.specs.Store.{IsUnchanged}
use Rattle.meta_store.specs.Changing.{IsKept}
use Rattle.plain_image.proofs.ReadBlocks.{HasBlocks}
use Rattle.plain_image.proofs.read.read_image.Given as goal

-- the blocks so far are read
abbrev pub invariant-loop-b : goal.invariant-loop-b
invariant-loop-b g l = record {
  size : length l.read.items ≡ 4096 * l.b;
  bytes : length l.bytes ≡ 4096;
  blocks : IfSome (g.S.MetaRead.store l.fn.store).content (λ image. HasBlocks l.b l.read.items image);
  unchanged : IsUnchanged (g.S.MetaRead.store l.fn.store) (g.S.MetaRead.store l.store);
  kept : IsKept (g.S.MetaRead.changing l.fn.store) (g.S.MetaRead.changing l.store);
  none_failed : NoneFailed (g.S.MetaRead.store l.fn.store).disk (g.S.MetaRead.store l.store).disk;
}
