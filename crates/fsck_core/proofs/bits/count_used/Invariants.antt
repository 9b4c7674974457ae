use Rattle.std.proofs.Common.{◌≡◌, take}
use Rattle.std.specs.Prelude.{is_some}
use Rattle.std.specs.List.{count_by}
use Rattle.fsck_core.proofs.bits.count_used.Given as goal

-- those so far are counted
abbrev pub invariant-loop-inode : goal.invariant-loop-inode
invariant-loop-inode l = l.count ≡ count_by is_some (take l.inode-index l.inodes)
