use Rattle.std.proofs.Common.{◌≡◌, ◌≤◌, ◌<◌, ℕ, false}
use Rattle.block_alloc.specs.Records.{is_clear_inode}
use Rattle.block_alloc.proofs.choice.lowest_inode.Given as goal

-- the bits before are set
abbrev pub invariant-loop-i : goal.invariant-loop-i
invariant-loop-i l = (j : ℕ) → 2 ≤ j → j < l.i → is_clear_inode l.g l.records j ≡ false
