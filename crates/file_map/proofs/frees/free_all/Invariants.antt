use Rattle.std.proofs.Common.{◌≡◌, ◌≤◌, ◌+◌, ◌*◌}
use Rattle.volume_model.specs.Log.{delta_bytes}
use Rattle.sector_disk.specs.Disk.{NoneFailed}
use Rattle.meta_store.specs.Store.{IsUnchanged}
use Rattle.meta_store.specs.Changing.{IsKept}
use Rattle.file_map.specs.Freed.{metadata_among}
use Rattle.file_map.proofs.GroupShares.{rest}
use Rattle.file_map.proofs.GivenShares.{BackTo}
use Rattle.file_map.proofs.frees.free_all.Given as goal

-- what is of the groups so far is freed
abbrev pub invariant-loop-n : goal.invariant-loop-n
invariant-loop-n g l = record {
  back : BackTo (g.S.MetaRead.store l.fn.store).content (g.S.MetaRead.store l.fn.store).geometry l.n l.fn.draft.change l.draft.change l.fn.inode l.freed;
  taken : l.draft.change.taken ≡ l.fn.draft.change.taken;
  growth : delta_bytes l.draft.change.deltas + 16 * metadata_among (rest (g.S.MetaRead.store l.fn.store).geometry l.n l.freed)
      ≤ delta_bytes l.fn.draft.change.deltas + (432 * l.n + 16 * metadata_among l.freed);
  unchanged : IsUnchanged (g.S.MetaRead.store l.fn.store) (g.S.MetaRead.store l.store);
  kept : IsKept (g.S.MetaRead.changing l.fn.store) (g.S.MetaRead.changing l.store);
  none_failed : NoneFailed (g.S.MetaRead.store l.fn.store).disk (g.S.MetaRead.store l.store).disk;
}
