use Rattle.std.proofs.Common.{◌≡◌, ◌-◌, ◌^◌, length, take}
use Rattle.std.specs.Prelude.{sum_by, min}
use Rattle.block_alloc.proofs.held.count_blocks.Given as goal

-- those of the hands so far
abbrev pub invariant-loop-hand : goal.invariant-loop-hand
invariant-loop-hand l = l.count ≡ min (sum_by (λ hand. length hand.blocks) (take l.hand-index l.hands)) (2 ^ 64 - 1)
