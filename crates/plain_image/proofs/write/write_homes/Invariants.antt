use Rattle.std.proofs.Common.{◌≤◌}
use Rattle.lufs_base.specs.Layout.{group_start}
use Rattle.sector_disk.specs.Disk.{NoneFailed}
use Rattle.plain_image.specs.HomesWritten.{HasHomes}
use Rattle.plain_image.proofs.write.write_homes.Given as goal

-- the blocks below this one are written
abbrev pub invariant-loop-b : goal.invariant-loop-b
invariant-loop-b g l = record {
  from : group_start l.g 0 ≤ l.b;
  homes : HasHomes l.g l.image l.b (g.D.Disk.told l.fn.disk) (g.D.Disk.told l.disk);
  none_failed : NoneFailed (g.D.Disk.told l.fn.disk) (g.D.Disk.told l.disk);
}
