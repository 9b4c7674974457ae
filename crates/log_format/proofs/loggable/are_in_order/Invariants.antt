use Rattle.std.proofs.Common.{◌≡◌, length}
use Rattle.log_format.specs.Loggable.{are_in_order}
use Rattle.log_format.proofs.loggable.are_in_order.Given as goal

abbrev pub invariant-loop-rest : goal.invariant-loop-rest
invariant-loop-rest l = are_in_order l.rest ≡ are_in_order l.deltas

abbrev pub decreases-loop-rest : goal.decreases-loop-rest
decreases-loop-rest l = length l.rest
