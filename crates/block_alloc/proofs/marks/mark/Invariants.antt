use Rattle.std.proofs.Common.{◌≡◌, true, take}
use Rattle.change_laws.specs.Marks.{HasHandPut}
use Rattle.cyl_groups.specs.Group.{record_of}
use Rattle.block_alloc.specs.Marks.{IsCountedGroup}
use Rattle.block_alloc.proofs.marks.mark.Given as goal

-- the inode is marked, and the blocks so far
abbrev pub invariant-loop-b : goal.invariant-loop-b
invariant-loop-b l = record {
  group : IsCountedGroup l.g l.group;
  number : l.group.number ≡ l.fn.group.number;
  put : HasHandPut l.g l.fn.group.number true (record { inode = l.hand.inode; blocks = take l.b-index l.b-items }) (record_of l.fn.group) (record_of l.group);
}
