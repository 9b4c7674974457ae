use Rattle.std.proofs.Common.{◌≤◌, ◌-◌, length}
use Rattle.host_io.proofs.PartRead.{IsPart}
use Rattle.host_io.proofs.whole.read_whole.Given as goal

abbrev pub invariant-pieces : goal.invariant-pieces
invariant-pieces g l = record {
  within : length l.bytes.items ≤ l.limit;
  part : IsPart l.bytes.items (g.S.Source.told l.fn.source) (g.S.Source.told l.source);
}

abbrev pub decreases-pieces : goal.decreases-pieces
decreases-pieces g l = l.limit - length l.bytes.items
