use Rattle.name_ops.proofs.AskedStores.{told_blocks}
use Rattle.name_ops.proofs.asking.name_blocks.Goals as goal

pub returns-clause-value : goal.returns-clause-value
returns-clause-value g c =
    let told = g.S.MetaRead.store c.args.store.now in
    told_blocks told.content told.geometry c.new.result.change c.args.dir.0 c.args.name.now c.in_ok-room.room c.args.d.now c.blocks_by.result c.new.ensures c.in_ok-room.ensures.value c.blocks_by.ensures.value
