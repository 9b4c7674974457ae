use Rattle.std.proofs.Common.{◌≡◌, ◌≤◌, ◌*◌, sum_by, take}
use Rattle.lufs_top.proofs.scan.listing.total_sectors.Given as goal

abbrev pub invariant-loop-tx : goal.invariant-loop-tx
invariant-loop-tx l = record { sum : l.sectors ≡ sum_by (λ tx. tx.sectors) (take l.tx-index l.txs); bound : l.sectors ≤ l.tx-index * 4294967295 }
