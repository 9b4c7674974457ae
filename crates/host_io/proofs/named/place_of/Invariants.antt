use Rattle.std.proofs.Common.{take}
use Rattle.host_io.specs.Named.{IsAbsent}
use Rattle.host_io.proofs.named.place_of.Given as goal

abbrev pub invariant-loop-i : goal.invariant-loop-i
invariant-loop-i g l = IsAbsent l.name (take l.i l.entries)
