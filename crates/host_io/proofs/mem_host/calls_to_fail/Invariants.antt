use Rattle.std.proofs.Common.{◌≡◌, take}
use Rattle.std.specs.List.{flat_map}
use Rattle.host_io.specs.MemHost.{call_of}
use Rattle.host_io.proofs.mem_host.calls_to_fail.Given as goal

abbrev pub invariant-loop-call : goal.invariant-loop-call
invariant-loop-call l = l.fails.items ≡ flat_map (call_of l.name) (take l.call-index l.calls)
