use Rattle.std.proofs.Common.{◌≡◌, ◌≤◌, ◌-◌, ◌^◌, length, IfSome}
use Rattle.lufs_base.specs.Layout.{ring_of}
use Rattle.sector_disk.specs.Disk.{IsUnwritten, NoneFailed}
use Rattle.log_scan.specs.Pieces.{Holds}
use Rattle.log_scan.proofs.TxTold.{IsListedTo}
use Rattle.log_scan.proofs.log.read_transactions.Given as goal

-- the transactions so far, and those after them, are the log's
abbrev pub invariant-loop-txs : goal.invariant-loop-txs
invariant-loop-txs g l = record {
  inside : l.at ≤ ring_of l.g;
  few : length l.txs ≤ l.at;
  number : l.tid ≤ 2 ^ 32;
  held : Holds l.g l.header.head (g.D.Disk.told l.disk).present l.piece;
  listed : IfSome (g.D.Disk.told l.fn.disk).present (IsListedTo l.g l.header l.tid l.at l.txs);
  unwritten : IsUnwritten (g.D.Disk.told l.fn.disk) (g.D.Disk.told l.disk);
  none_failed : NoneFailed (g.D.Disk.told l.fn.disk) (g.D.Disk.told l.disk);
}

abbrev pub decreases-loop-txs : goal.decreases-loop-txs
decreases-loop-txs g l = ring_of l.g - l.at
