use Rattle.std.proofs.Common.{◌≡◌, ◌≤◌, take, drop}
use Rattle.volume_model.specs.Crash.{flushed, pending}
use Rattle.sector_disk.proofs.crash.flushed_len.Given as goal

abbrev pub invariant-loop-call : goal.invariant-loop-call
invariant-loop-call l = record {
  seen : l.seen ≡ l.call-index;
  within : l.end ≤ l.call-index;
  flushed : take l.end l.calls ≡ flushed (take l.call-index l.calls);
  pending : drop l.end (take l.call-index l.calls) ≡ pending (take l.call-index l.calls);
}
