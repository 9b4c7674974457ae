use Rattle.std.proofs.Common.{true, false}
use Rattle.block_alloc.proofs.CountedGroups.{block_left}
use Rattle.block_alloc.proofs.marks.put_block.Goals as goal
use Rattle.block_alloc.proofs.marks.put_block.Goals.{then-value, else-value}

pub returns-clause-group : goal.returns-clause-group
returns-clause-group c =
    let g = c.args.g.now in
    let old = c.args.group.now in
    let size = c.are_bytes.ensures.size in
    let bytes = c.are_bytes.ensures.bytes in
    elim c.if-value.branch [
      | then-value w ↦
          block_left g old w.set_block.new.self c.if-value.group c.args.place true c.requires.geometry c.requires.group w.group-is w.set_block.ensures.bit w.set_block.ensures.counted
          w.set_block.ensures.others c.requires.body c.requires.inside size bytes
      | else-value w ↦
          block_left g old w.clear_block.new.self c.if-value.group c.args.place false c.requires.geometry c.requires.group w.group-is w.clear_block.ensures.bit w.clear_block.ensures.counted
          w.clear_block.ensures.others c.requires.body c.requires.inside size bytes
    ]
