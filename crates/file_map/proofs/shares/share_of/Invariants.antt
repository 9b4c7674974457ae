use Rattle.std.proofs.Common.{◌≡◌, take}
use Rattle.std.specs.List.{filter}
use Rattle.file_map.specs.Freed.{is_block_of}
use Rattle.file_map.proofs.shares.share_of.Given as goal

-- the blocks of the group so far
abbrev pub invariant-loop-f : goal.invariant-loop-f
invariant-loop-f l = l.share.items ≡ filter (is_block_of l.g l.n) (take l.f-index l.freed)
