use Rattle.std.proofs.Common.{◌≡◌, ◌*◌, length, IfSome}
use Rattle.volume_model.specs.Format.{block}
use Rattle.sector_disk.specs.Disk.{NoneFailed}
use Rattle.meta_store.specs.Store.{IsUnchanged}
use Rattle.fsck_core.specs.Inodes.{AreKept, HasKept}
use Rattle.fsck_core.proofs.records.read_inodes.Given as goal

-- the inodes of the groups so far are kept
abbrev pub invariant-loop-n : goal.invariant-loop-n
invariant-loop-n g l = record {
  size : length l.table.items ≡ 128 * (g.S.MetaRead.store l.fn.store).geometry.ipg;
  kept : IfSome (g.S.MetaRead.store l.fn.store).content (λ image.
      AreKept (g.S.MetaRead.store l.fn.store).geometry (block image) (l.n * (g.S.MetaRead.store l.fn.store).geometry.ipg) l.inodes.briefs.items l.inodes.unsettled.items l.inodes.claims);
  room : HasKept (g.S.MetaRead.store l.fn.store).geometry (l.n * (g.S.MetaRead.store l.fn.store).geometry.ipg) l.inodes.briefs.items l.inodes.unsettled.items l.inodes.claims;
  unchanged : IsUnchanged (g.S.MetaRead.store l.fn.store) (g.S.MetaRead.store l.store);
  none_failed : NoneFailed (g.S.MetaRead.store l.fn.store).disk (g.S.MetaRead.store l.store).disk;
}
