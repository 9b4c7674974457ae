use Rattle.std.proofs.Common.{◌≡◌, ◌≤◌, suc, length, ◌-◌, drop}
use Rattle.volume_model.specs.Log.{run_of, run_after}
use Rattle.log_format.specs.InOrder.{InOrder}
use Rattle.log_format.proofs.records.read_run.Given as goal

-- the run after the deltas so far is the payload's
abbrev pub invariant-loop-deltas : goal.invariant-loop-deltas
invariant-loop-deltas l = record {
  inside : l.at ≤ length l.payload;
  few : length l.deltas ≤ l.at;
  order : InOrder l.g l.deltas;
  run : run_after l.g l.tid (suc (length l.payload - length l.deltas)) l.deltas (drop l.at l.payload) ≡ run_of l.g l.tid l.payload;
}

abbrev pub decreases-loop-deltas : goal.decreases-loop-deltas
decreases-loop-deltas l = length l.payload - l.at
