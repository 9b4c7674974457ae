use Rattle.std.proofs.Common.{◌≡◌, ◌≤◌, ◌<◌, ◌-◌, ◌*◌, ◌^◌, IfSome}
use Rattle.lufs_base.specs.Layout.{ring_of}
use Rattle.sector_disk.specs.Disk.{IsUnwritten, NoneFailed}
use Rattle.log_format.specs.RunReading.{IsCounted, bytes_read}
use Rattle.log_scan.specs.Ring.{ring_in}
use Rattle.log_scan.specs.Pieces.{Holds}
use Rattle.log_scan.proofs.SummariesTold.{IsReadTo}
use Rattle.log_scan.proofs.summaries.read_summary.Given as goal

-- the sectors before sector i are of the row, and the reader has read what they carry
abbrev pub invariant-loop-run : goal.invariant-loop-run
invariant-loop-run g l = record {
  low : l.at ≤ l.i;
  high : l.i ≤ ring_of l.g;
  number : l.at < l.i → l.tid < 2 ^ 32;
  held : Holds l.g l.header.head (g.D.Disk.told l.disk).present l.piece;
  run_tid : l.run.tid ≡ l.tid;
  counted : IsCounted l.run.tally;
  count : bytes_read l.run ≡ 504 * (l.i - l.at);
  row : IfSome (g.D.Disk.told l.fn.disk).present (λ image. IsReadTo l.g l.header.epoch l.tid l.at l.i (ring_in l.g l.header.head image) l.run);
  unwritten : IsUnwritten (g.D.Disk.told l.fn.disk) (g.D.Disk.told l.disk);
  none_failed : NoneFailed (g.D.Disk.told l.fn.disk) (g.D.Disk.told l.disk);
}

abbrev pub decreases-loop-run : goal.decreases-loop-run
decreases-loop-run g l = ring_of l.g - l.i
