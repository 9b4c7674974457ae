use Rattle.std.proofs.Common.{◌≡◌, take}
use Rattle.plain_calls.proofs.hands.copy_of.Given as goal

abbrev pub invariant-loop-b : goal.invariant-loop-b
invariant-loop-b l = l.blocks ≡ take l.b-index l.b-items
