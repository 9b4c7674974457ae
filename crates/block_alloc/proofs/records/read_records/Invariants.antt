use Rattle.std.proofs.Common.{◌≡◌, length}
use Rattle.sector_disk.specs.Disk.{NoneFailed}
use Rattle.meta_store.specs.Changing.{IsAsBefore, all_told}
use Rattle.block_alloc.specs.Records.{AreReadGroups}
use Rattle.block_alloc.proofs.RecordsRead.{AreFirst}
use Rattle.block_alloc.proofs.records.read_records.Given as goal

-- the records of the groups so far are in the list
abbrev pub invariant-loop-n : goal.invariant-loop-n
invariant-loop-n g l = record {
  size : length l.records.items ≡ l.n;
  groups : AreReadGroups (g.S.MetaRead.store l.fn.store).geometry l.records.items;
  records : AreFirst (g.S.MetaRead.store l.fn.store).geometry (g.S.MetaRead.store l.fn.store).content l.n l.records.items;
  same : IsAsBefore (all_told (g.S.MetaRead.store l.fn.store) (g.S.MetaRead.changing l.fn.store)) (all_told (g.S.MetaRead.store l.store) (g.S.MetaRead.changing l.store));
  none_failed : NoneFailed (g.S.MetaRead.store l.fn.store).disk (g.S.MetaRead.store l.store).disk;
}
