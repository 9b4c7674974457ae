use Rattle.std.proofs.Common.{◌≡◌, length, IfSome}
use Rattle.volume_model.specs.Format.{block}
use Rattle.sector_disk.specs.Disk.{NoneFailed}
use Rattle.meta_store.specs.Store.{IsUnchanged}
use Rattle.fsck_core.specs.Tables.{AreGroups}
use Rattle.fsck_core.proofs.records.read_groups.Given as goal

-- the records of the groups so far are in the list
abbrev pub invariant-loop-n : goal.invariant-loop-n
invariant-loop-n g l = record {
  size : length l.groups.items ≡ l.n;
  records : IfSome (g.S.MetaRead.store l.fn.store).content (λ image. AreGroups (g.S.MetaRead.store l.fn.store).geometry (block image) l.groups.items);
  unchanged : IsUnchanged (g.S.MetaRead.store l.fn.store) (g.S.MetaRead.store l.store);
  none_failed : NoneFailed (g.S.MetaRead.store l.fn.store).disk (g.S.MetaRead.store l.store).disk;
}
