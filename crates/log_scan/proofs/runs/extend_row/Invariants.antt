use Rattle.std.proofs.Common.{◌≡◌, ◌≤◌, ◌<◌, ◌-◌, ◌^◌, IfSome}
use Rattle.lufs_base.specs.Layout.{ring_of}
use Rattle.sector_disk.specs.Disk.{IsUnwritten, NoneFailed}
use Rattle.log_scan.specs.Ring.{ring_in}
use Rattle.log_scan.specs.Pieces.{Holds}
use Rattle.log_scan.proofs.RowsTold.{IsRowTo}
use Rattle.log_scan.proofs.runs.extend_row.Given as goal

-- the sectors before sector i are of the row, and the payload is what they carry
abbrev pub invariant-loop-payload : goal.invariant-loop-payload
invariant-loop-payload g l = record {
  low : l.at ≤ l.i;
  high : l.i ≤ ring_of l.g;
  number : l.at < l.i → l.tid < 2 ^ 32;
  held : Holds l.g l.header.head (g.D.Disk.told l.disk).present l.piece;
  row : IfSome (g.D.Disk.told l.fn.disk).present (λ image. IsRowTo l.header.epoch l.tid l.at l.i (ring_in l.g l.header.head image) l.payload.items);
  unwritten : IsUnwritten (g.D.Disk.told l.fn.disk) (g.D.Disk.told l.disk);
  none_failed : NoneFailed (g.D.Disk.told l.fn.disk) (g.D.Disk.told l.disk);
}

abbrev pub decreases-loop-payload : goal.decreases-loop-payload
decreases-loop-payload g l = ring_of l.g - l.i
