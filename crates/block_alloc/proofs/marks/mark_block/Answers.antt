use Rattle.cyl_groups.specs.Group.{record_of}
use Rattle.block_alloc.proofs.HandPut.{marked_block, other_block}
use Rattle.block_alloc.proofs.marks.mark_block.Goals as goal

pub returns-then-away-g-clause-put : goal.returns-then-away-g-clause-put
returns-then-away-g-clause-put c =
    let old = c.args.group.now in
    marked_block c.args.g.now c.args.b old.number c.group_block.result.0 (record_of old) (record_of c.put_block.new.group) c.requires.geometry c.requires.body c.group_block.ensures
    c.if-away-g.true c.put_block.ensures.put

pub returns-else-away-g-clause-put : goal.returns-else-away-g-clause-put
returns-else-away-g-clause-put c =
    let old = c.args.group.now in
    other_block c.args.g.now c.args.b old.number c.group_block.result.0 (record_of old) c.group_block.ensures c.if-away-g.false
