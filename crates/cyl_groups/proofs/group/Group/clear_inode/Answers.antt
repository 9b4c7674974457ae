use Rattle.std.proofs.Common.{arith}
use Rattle.cyl_groups.proofs.Counts.{one_more, clear_bits-le}
use Rattle.cyl_groups.proofs.group.Group.clear_inode.Goals as goal

pub overflow_add-self : goal.overflow_add-self
overflow_add-self c =
    let x = c.args.self.now in
    let step = one_more c.args.i x.ipg x.inode_bits c.clear.new.bits c.clear.ensures c.requires.used c.requires.range in
    let bound = clear_bits-le c.clear.new.bits x.ipg in
    record { fits = omega (arith, x.ipg_in_bits) }

pub returns-clause-counted : goal.returns-clause-counted
returns-clause-counted c =
    let x = c.args.self.now in
    let step = one_more c.args.i x.ipg x.inode_bits c.clear.new.bits c.clear.ensures c.requires.used c.requires.range in
    record { inodes = omega arith; blocks = c.requires.counted.blocks }
