use Rattle.std.proofs.Common.{true, false}
use Rattle.block_alloc.proofs.CountedGroups.{inode_left}
use Rattle.block_alloc.proofs.marks.put_inode.Goals as goal
use Rattle.block_alloc.proofs.marks.put_inode.Goals.{then-value, else-value}

pub returns-clause-group : goal.returns-clause-group
returns-clause-group c =
    let g = c.args.g.now in
    let old = c.args.group.now in
    let size = c.are_bytes.ensures.size in
    let bytes = c.are_bytes.ensures.bytes in
    elim c.if-value.branch [
      | then-value w ↦
          inode_left g old w.set_inode.new.self c.if-value.group c.args.place true c.requires.geometry c.requires.group w.group-is w.set_inode.ensures.bit w.set_inode.ensures.counted
          w.set_inode.ensures.others c.requires.usable c.requires.inside size bytes
      | else-value w ↦
          inode_left g old w.clear_inode.new.self c.if-value.group c.args.place false c.requires.geometry c.requires.group w.group-is w.clear_inode.ensures.bit w.clear_inode.ensures.counted
          w.clear_inode.ensures.others c.requires.usable c.requires.inside size bytes
    ]
