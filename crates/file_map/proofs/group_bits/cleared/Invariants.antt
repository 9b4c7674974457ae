use Rattle.std.proofs.Common.{◌≡◌, false, take}
use Rattle.change_laws.specs.Marks.{HasHandPut}
use Rattle.cyl_groups.specs.Group.{record_of}
use Rattle.file_map.specs.Freed.{hand_of, IsCountedGroup}
use Rattle.file_map.proofs.group_bits.cleared.Given as goal

-- the bits of the inode are cleared, and of the blocks so far
abbrev pub invariant-loop-f : goal.invariant-loop-f
invariant-loop-f l = record {
  group : IsCountedGroup l.g l.cleared;
  number : l.cleared.number ≡ l.fn.group.number;
  put : HasHandPut l.g l.fn.group.number false (hand_of l.fn.inode (take l.f-index l.freed)) (record_of l.fn.group) (record_of l.cleared);
}
