use Rattle.std.proofs.Common.{◌≡◌, ◌≤◌, ◌-◌, ◌^◌, length, IfSome}
use Rattle.lufs_base.specs.Layout.{ring_of}
use Rattle.sector_disk.specs.Disk.{IsUnwritten, NoneFailed}
use Rattle.log_scan.specs.Pieces.{Holds}
use Rattle.log_scan.proofs.SummariesTold.{IsSummedTo}
use Rattle.log_scan.proofs.summaries.read_summaries.Given as goal

-- the transactions that are summed up so far, and those after them, are the log's
abbrev pub invariant-loop-run : goal.invariant-loop-run
invariant-loop-run g l = record {
  inside : l.at ≤ ring_of l.g;
  few : length l.txs ≤ l.at;
  number : l.tid ≤ 2 ^ 32;
  held : Holds l.g l.header.head (g.D.Disk.told l.disk).present l.piece;
  listed : IfSome (g.D.Disk.told l.fn.disk).present (IsSummedTo l.g l.header l.tid l.at l.txs);
  unwritten : IsUnwritten (g.D.Disk.told l.fn.disk) (g.D.Disk.told l.disk);
  none_failed : NoneFailed (g.D.Disk.told l.fn.disk) (g.D.Disk.told l.disk);
}

abbrev pub decreases-loop-run : goal.decreases-loop-run
decreases-loop-run g l = ring_of l.g - l.at
