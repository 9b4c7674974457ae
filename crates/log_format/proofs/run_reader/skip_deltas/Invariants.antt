use Rattle.std.proofs.Common.{◌≡◌, ◌≤◌, ◌+◌, ◌-◌, length}
use Rattle.log_format.specs.BodyHomes.{AreInBodies}
use Rattle.log_format.specs.RunReading.{IsCounted, HasSkipped}
use Rattle.log_format.proofs.run_reader.skip_deltas.Given as goal

-- the deltas before byte `at` are in the tally
abbrev pub invariant-loop-head : goal.invariant-loop-head
invariant-loop-head l = record {
  inside : l.at ≤ length l.bytes;
  counted : IsCounted l.tally;
  bytes : l.tally.bytes ≡ l.fn.tally.bytes + l.at;
  bodies : AreInBodies l.g l.homes;
  skipped : HasSkipped l.g l.tid l.bytes l.at l.fn.tally l.tally;
}

abbrev pub decreases-loop-head : goal.decreases-loop-head
decreases-loop-head l = length l.bytes - l.at
