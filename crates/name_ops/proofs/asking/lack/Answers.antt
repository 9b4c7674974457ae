use Rattle.name_ops.proofs.AskedStores.{told_lack}
use Rattle.name_ops.proofs.asking.lack.Goals as goal

pub returns-clause-value : goal.returns-clause-value
returns-clause-value g c =
    let told = g.S.MetaRead.store c.args.store.now in
    told_lack told.content told.geometry c.args.inode c.args.blocks c.in_ok-free_inodes.free_inodes c.in_ok-free_inodes.free_blocks c.args.held.now c.lack_by.result c.lack_by.ensures c.in_ok-free_inodes.ensures.free
